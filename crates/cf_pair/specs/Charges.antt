use Rattle.std.specs.Prelude.{◌≡◌, ℕ, ◌<◌, ◌≤◌, ◌+◌, ◌*◌, Bool, IsTrue, List, ◌++◌, All, Contains, sum_by}
use Rattle.cf_model.specs.Renumbering.{AllDiffer, IsNew}
use Rattle.cf_model.specs.Patterns.{Pattern, sub, node_work}
use Rattle.cf_table.specs.declared.Gid.{Gid}
use Rattle.cf_table.specs.Groupings.{Groupings, grouping_pattern, patterns_of}

-- what a pair of patterns counts: the product of what a grouping of each counts
abbrev pub pair_work : Pattern × Pattern → ℕ
pair_work k = node_work k.0.level k.0.ranks * node_work k.1.level k.1.ranks

-- The patterns of the pair are parts of p and of q, of a level below `limit`.
pub record ArePartsOf (p q : Pattern) (limit : ℕ) (k : Pattern × Pattern) : Type 0 where
  pub first : Contains (sub p.level p.ranks) k.0
  pub second : Contains (sub q.level q.ranks) k.1
  pub level : k.0.level < limit

-- The steps from `start` to `end` are charged to pairs of parts of p and q that weren't in the memo, but for `own` of
-- them: two for each unit of a pair's work, and no pair twice. Where all went well (`ok`), the memo has gained just these.
pub record IsCharged (before now : List (Pattern × Pattern)) (p q : Pattern) (limit own start end : ℕ) (ok : Bool) : Type 0 where
  pub all : List (Pattern × Pattern)
  pub differ : AllDiffer before → AllDiffer (before ++ all)
  pub parts : All (ArePartsOf p q limit) all
  pub cost : end ≤ start + own + 2 * sum_by pair_work all
  pub kept : IsTrue ok → now ≡ before ++ all

-- The same for the patterns of two groupings, from a table to a later one.
abbrev pub IsChargedFor : (before now : Groupings) → Gid → Gid → (limit own start end : ℕ) → Bool → Type 0
IsChargedFor before now g h limit own start end ok =
    IsCharged before.products now.products (grouping_pattern before.levels g) (grouping_pattern before.levels h) limit own start end ok

-- The groupings are above level 0, and the memo has no product of them.
pub record IsUnknown (t : Groupings) (g h : Gid) : Type 0 where
  pub above : 1 ≤ g.level
  pub new : IsNew t.products (patterns_of t.levels g h)
