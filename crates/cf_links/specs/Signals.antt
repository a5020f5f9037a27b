use Rattle.std.specs.Prelude.{◌≢◌, ◌<◌, ℕ, List, [], ◌∷◌, Some, None, if◌then◌else◌}
use Rattle.std.specs.List.{All, AllPairs}
use Rattle.std.specs.Str.{bytes_eq}
use Rattle.cf_model.specs.Renumbering.{note}
use Rattle.cf_circuits.specs.declared.gates.Gate.{Gate}
use Rattle.cf_circuits.specs.declared.pins.Call.{Call}
use Rattle.cf_links.specs.declared.parts.Part as handed
use Rattle.cf_links.specs.declared.parts.Part.TheVariants as is
use Rattle.cf_links.specs.declared.signals.Driven.{Driven}
use Rattle.cf_circuits.specs.Parts.{Part, AGate, ACall}
use Rattle.cf_circuits.specs.Links.{first_of, is_among}

-- the gate or call that is handed out
abbrev pub part_of : handed.Part → Part
part_of (is.Gate g) = AGate g.now
part_of (is.Call c) = ACall c.now

-- Gates and calls stand in order of their lines, and no line is both a gate and a call.
pub record InOrder (gates : List Gate) (calls : List Call) : Type 0 where
  pub gates_in_order : AllPairs (λ g h. g.line < h.line) gates
  pub calls_in_order : AllPairs (λ c d. c.line < d.line) calls
  pub apart : All (λ g. All (λ c. g.line ≢ c.line) calls) gates

-- Nothing is driven.
abbrev pub nothing : Driven
nothing = record { names = []; again = None }

-- One more signal is driven: it is noted, and if it was noted before, it is the first such unless there is one.
abbrev pub drive : Driven → List ℕ → Driven
drive seen name = record {
  names = note bytes_eq seen.names name;
  again = first_of (seen.again ∷ (if is_among seen.names name then Some name else None) ∷ []);
}

-- signals are driven one after another
abbrev pub drive_all : Driven → List (List ℕ) → Driven
drive_all seen [] = seen
drive_all seen (name ∷ later) = drive_all (drive seen name) later
