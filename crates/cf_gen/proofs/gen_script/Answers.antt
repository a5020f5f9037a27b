use Rattle.cf_reference.specs.Generator.{text_of_lines}
use Rattle.cf_gen.proofs.ScriptLaws.{gen_script-is}
use Rattle.cf_gen.proofs.gen_script.Goals as goal

pub returns : goal.returns
unfolding text_of_lines
returns c = record {
  script = gen_script-is c.args.n _ _ _ _ _ c.in_ok-text.ensures.items c.in_ok-extend_from_slice.ensures.items
      c.in_ok-add_variables.ensures c.in_ok-add_drawn.ensures c.in_ok-extend_from_slice-2.ensures.items;
}
