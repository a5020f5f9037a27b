pub mod ScriptLaws
