use Rattle.std.proofs.Common.{◌≡◌, ◌++◌, length, true}
use Rattle.std.specs.List.{list_all}
use Rattle.cf_reference.specs.Words.{words, is_name}
use Rattle.cf_script.proofs.statements.read_vars.Given as goal

abbrev pub invariant-loop-name : goal.invariant-loop-name
invariant-loop-name l = record {
  all : words l.text ≡ l.names ++ words l.rest;
  named : list_all is_name l.names ≡ true;
}

abbrev pub decreases-loop-name : goal.decreases-loop-name
decreases-loop-name l = length l.rest
