use Rattle.std.specs.Prelude.{◌≡◌, ◌<◌, ℕ, Bool, List, Some}
use Rattle.std.specs.List.{slice_get}
use Rattle.cf_model.specs.Patterns.{sub}
use Rattle.cf_model.specs.Diagrams.{Levels, count, pattern}
use Rattle.cf_table.specs.declared.Gid.{Gid}
use Rattle.cf_table.specs.Kept.{Each}
use Rattle.cf_build.specs.Assembling.{HasCanon, AddsOnly}
use Rattle.cf_restrict.specs.declared.memo.Setting.{Setting}
use Rattle.cf_restrict.specs.declared.memo.Restricted.{Restricted}
use Rattle.cf_restrict.specs.Restrictions.{restricted_exits}

-- The head and the exits are the canon of the exits that grouping g of an earlier table has with bit i set to
-- b.
abbrev pub IsRestricted : (before now : Levels) → Gid → ℕ → Bool → Gid → List ℕ → Type 0
IsRestricted before now g i b head exits =
    HasCanon now head g.level (restricted_exits g.level (pattern before g.level g.at) i b) exits

-- An entry of a memo is what its setting comes to, in one table.
pub record KeepsRestriction (t : Levels) (e : Setting × Restricted) : Type 0 where
  pub owned : e.0.grouping.at < count t e.0.grouping.level
  pub is_it : IsRestricted t t e.0.grouping e.0.position e.0.bit e.1.head e.1.exits.items

-- All entries of a memo are what their settings come to.
abbrev pub AreRestrictions : Levels → List (Setting × Restricted) → Type 0
AreRestrictions t entries = Each (KeepsRestriction t) entries

-- The entry at a place has the setting.
pub record HasKey (entries : List (Setting × Restricted)) (setting : Setting) (place : ℕ) : Type 0 where
  pub entry : Setting × Restricted
  pub there : slice_get entries place ≡ Some entry
  pub is_it : entry.0 ≡ setting

-- The entry at a place has the value.
pub record HasValue (entries : List (Setting × Restricted)) (value : Restricted) (place : ℕ) : Type 0 where
  pub entry : Setting × Restricted
  pub there : slice_get entries place ≡ Some entry
  pub is_it : entry.1 ≡ value

-- The entry at a place is what grouping g of an earlier table comes to with bit i set to b, and the table has
-- gained only what its head is made of.
pub record IsRestrictedAt (before now : Levels) (entries : List (Setting × Restricted))
    (g : Gid) (i : ℕ) (b : Bool) (place : ℕ) : Type 0 where
  pub entry : Setting × Restricted
  pub there : slice_get entries place ≡ Some entry
  pub is_it : IsRestricted before now g i b entry.1.head entry.1.exits.items
  pub added : AddsOnly before now (sub entry.1.head.level (pattern now entry.1.head.level entry.1.head.at))
