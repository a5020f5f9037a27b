use Rattle.std.specs.Prelude.{ℕ, List, [], ◌∷◌, Option, Some, None, if◌then◌else◌}
use Rattle.std.specs.Str.{bytes_eq}
use Rattle.cf_pkg.specs.declared.Func.{Func}
use Rattle.cf_reference.specs.States.{position_of}
use Rattle.cf_session.specs.Sessions.{Names, names_of}

-- the place of a name
abbrev pub place_in : Names → List ℕ → Option ℕ
place_in bound name = position_of (names_of bound) name

-- the function that a name is bound to
abbrev pub bound_to : Names → List ℕ → Option Func
bound_to [] name = None
bound_to (b ∷ later) name = if bytes_eq name b.0 then Some b.1 else bound_to later name

-- a name that is bound anew keeps its place
abbrev pub bind : Names → List ℕ → Func → Names
bind [] name f = (name, f) ∷ []
bind (b ∷ later) name f = if bytes_eq name b.0 then (b.0, f) ∷ later else b ∷ bind later name f
