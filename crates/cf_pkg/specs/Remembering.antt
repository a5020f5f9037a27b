use Rattle.std.specs.Prelude.{◌≡◌, ◌<◌, ◌⊎◌, ℕ, All}
use Rattle.cf_model.specs.Values.{Fits}
use Rattle.cf_pkg.specs.declared.Func.{Func}
use Rattle.cf_pkg.specs.Tasks.{Task}
use Rattle.cf_pkg.specs.Packages.{Package, IsRemembered, HasParts}
use Rattle.cf_pkg.specs.Jobs.{task_level, Finishes}

-- What a package keeps: values that fit, and finished jobs whose functions are theirs.
pub record IsSound (p : Package) : Type 0 where
  pub fit : All (All Fits) p.lists
  pub finished : (t : Task) (f : Func) → IsRemembered p t f → Finishes p t f

-- The job is finished, with this function alone, which is its function. All parts of the function are in the table.
pub record IsDone (p : Package) (t : Task) (f : Func) : Type 0 where
  pub there : IsRemembered p t f
  pub alone : (g : Func) → IsRemembered p t g → g ≡ f
  pub is_it : Finishes p t f
  pub parts : HasParts p f

-- The jobs that were finished since are of a level below the limit.
abbrev pub FinishesBelow : (before now : Package) → ℕ → Type 0
FinishesBelow before now limit = (t : Task) (f : Func) → IsRemembered now t f → IsRemembered before t f ⊎ (task_level t < limit)
