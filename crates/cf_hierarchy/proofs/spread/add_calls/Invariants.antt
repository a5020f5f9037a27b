use Rattle.std.proofs.Common.{◌≡◌, ◌++◌, drop}
use Rattle.cf_hierarchy.specs.Spreads.{made, made_end}
use Rattle.cf_hierarchy.proofs.spread.add_calls.Given as goal

pub record Adding (a b : Type 0) : Type 0 where
  pub copies : a
  pub end : b

abbrev pub invariant-loop-place : goal.invariant-loop-place
invariant-loop-place l = Adding
    (l.copies ++ made l.blocks l.parent l.place l.next (drop l.place l.calls) ≡ l.initial.copies ++
    made l.blocks l.parent 0 l.base l.calls)
    (made_end l.blocks l.next (drop l.place l.calls) ≡ made_end l.blocks l.base l.calls)
