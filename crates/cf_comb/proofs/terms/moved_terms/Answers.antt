use Rattle.std.proofs.Common.{◌+◌, get_or, sym, ◌∙◌, arith}
use Rattle.std.proofs.lemmas.Bool.{false≢true}
use Rattle.cf_comb.specs.Merges.{no_term}
use Rattle.cf_comb.proofs.GatherLaws.{before_less}
use Rattle.cf_comb.proofs.terms.moved_terms.Goals as goal

pub returns-clause-in_order : goal.returns-clause-in_order
returns-clause-in_order c k h b =
    let terms = c.sort_unstable.new.self.items in
    false≢true (sym (c.sort_unstable.ensures.sorted k no_term (omega arith) h) ∙ before_less (get_or terms (k + 1) no_term) (get_or terms k no_term) b)
