-- The netlists that BLIF texts say, on worked examples.
use Rattle.std.proofs.Common.{ℕ, ◌≡◌, List, [], ◌∷◌, None, Bool, true, false, refl, arith}
use Rattle.std.specs.Prelude.{codes}
use Rattle.cf_circuits.specs.declared.gates.Cell.{Cell}
use Rattle.cf_circuits.specs.declared.gates.Cell.TheVariants as cell
use Rattle.cf_circuits.specs.declared.gates.Gate.{Gate}
use Rattle.cf_circuits.specs.declared.pins.Pin.{Pin}
use Rattle.cf_circuits.specs.declared.pins.Call.{Call}
use Rattle.cf_circuits.specs.declared.models.ModelDef.{ModelDef}
use Rattle.cf_circuits.specs.LogicalLines.{physical, before_comment, continues, blanked, texts, words}
use Rattle.cf_circuits.specs.Kinds.{kind_of_word, formal_of, actual_of}
use Rattle.cf_circuits.specs.Causes.{first_fault, fault}
use Rattle.cf_circuits.specs.Netlists.{models_of, net}
use Rattle.cf_circuits.specs.Kept.{IsGate}
use Rattle.cf_circuits.proofs.BlifExamples.{text}

-- a text has no fault and says these models
abbrev says : List (List ℕ) → List ModelDef → Type 0
unfolding physical before_comment continues blanked texts words kind_of_word formal_of actual_of first_fault models_of
says rows models = (net (text rows) ≡ models) × (fault (text rows) ≡ None)

abbrev gate : ℕ → List (List ℕ) → List ℕ → Bool → List (List Cell) → Gate
gate line ins out on planes = record { ins = ins; out = out; cover = record { on = on; planes = planes }; line = line }

abbrev pin : List ℕ → List ℕ → Pin
pin formal actual = record { formal = formal; actual = actual }

abbrev call : ℕ → List ℕ → List Pin → Call
call line model pins = record { model = model; pins = pins; line = line }

abbrev model : List ℕ → List (List ℕ) → List (List ℕ) → List Gate → List Call → ModelDef
model name inputs outputs gates calls = record { name = name; inputs = inputs; outputs = outputs; gates = gates; calls = calls }

-- a full adder, with a line that goes on
abbrev adder_text : List (List ℕ)
adder_text =
    codes "# a full adder"
    ∷ codes ".model adder"
    ∷ codes ".inputs a b cin"
    ∷ codes ".outputs sum cout"
    ∷ codes ".names a b \\"
    ∷ codes "cin sum"
    ∷ codes "100 1"
    ∷ codes "010 1"
    ∷ codes "001 1"
    ∷ codes "111 1"
    ∷ codes ".names a b cin cout"
    ∷ codes "11- 1"
    ∷ codes "1-1 1"
    ∷ codes "-11 1"
    ∷ codes ".end"
    ∷ []

abbrev adder_net : List ModelDef
adder_net =
    (model (codes "adder") (codes "a" ∷ codes "b" ∷ codes "cin" ∷ []) (codes "sum" ∷ codes "cout" ∷ [])
    (gate 5 (codes "a" ∷ codes "b" ∷ codes "cin" ∷ []) (codes "sum") true ((cell.One ∷ cell.Zero ∷ cell.Zero ∷ []) ∷ (cell.Zero ∷ cell.One ∷ cell.Zero ∷ []) ∷ (cell.Zero ∷ cell.Zero ∷ cell.One ∷ []) ∷ (cell.One ∷ cell.One ∷ cell.One ∷ []) ∷ [])
    ∷ gate 11 (codes "a" ∷ codes "b" ∷ codes "cin" ∷ []) (codes "cout") true ((cell.One ∷ cell.One ∷ cell.Any ∷ []) ∷ (cell.One ∷ cell.Any ∷ cell.One ∷ []) ∷ (cell.Any ∷ cell.One ∷ cell.One ∷ []) ∷ [])
    ∷ [])
    [])
    ∷ []

adder : says adder_text adder_net
unfolding says
adder = (refl, refl)

-- an off-set, an empty cover, a constant and an on-set, in a model without an end
abbrev each_cover_text : List (List ℕ)
each_cover_text =
    codes ".model m"
    ∷ codes ".inputs a b"
    ∷ codes ".outputs n k"
    ∷ codes ".outputs j d"
    ∷ codes ".names a b n"
    ∷ codes "11 0"
    ∷ codes ".names k"
    ∷ codes ".names j"
    ∷ codes "1"
    ∷ codes ".names a b d"
    ∷ codes "1- 1"
    ∷ []

abbrev each_cover_net : List ModelDef
each_cover_net =
    (model (codes "m") (codes "a" ∷ codes "b" ∷ []) (codes "n" ∷ codes "k" ∷ codes "j" ∷ codes "d" ∷ [])
    (gate 5 (codes "a" ∷ codes "b" ∷ []) (codes "n") false ((cell.One ∷ cell.One ∷ []) ∷ [])
    ∷ gate 7 [] (codes "k") true []
    ∷ gate 8 [] (codes "j") true ([] ∷ [])
    ∷ gate 10 (codes "a" ∷ codes "b" ∷ []) (codes "d") true ((cell.One ∷ cell.Any ∷ []) ∷ [])
    ∷ [])
    [])
    ∷ []

each_cover : says each_cover_text each_cover_net
unfolding says
each_cover = (refl, refl)

-- a model that is called twice, and stands behind its calls
abbrev cross_text : List (List ℕ)
cross_text =
    codes ".model top"
    ∷ codes ".inputs a b"
    ∷ codes ".outputs p q"
    ∷ codes ".subckt half x=a y=b z=p"
    ∷ codes ".subckt half x=b y=a z=q"
    ∷ codes ".end"
    ∷ codes ".model half"
    ∷ codes ".inputs x y"
    ∷ codes ".outputs z"
    ∷ codes ".names x y z"
    ∷ codes "10 1"
    ∷ codes ".end"
    ∷ []

abbrev cross_net : List ModelDef
cross_net =
    (model (codes "top") (codes "a" ∷ codes "b" ∷ []) (codes "p" ∷ codes "q" ∷ [])
    []
    (call 4 (codes "half") (pin (codes "x") (codes "a") ∷ pin (codes "y") (codes "b") ∷ pin (codes "z") (codes "p") ∷ [])
    ∷ call 5 (codes "half") (pin (codes "x") (codes "b") ∷ pin (codes "y") (codes "a") ∷ pin (codes "z") (codes "q") ∷ [])
    ∷ []))
    ∷ (model (codes "half") (codes "x" ∷ codes "y" ∷ []) (codes "z" ∷ [])
    (gate 10 (codes "x" ∷ codes "y" ∷ []) (codes "z") true ((cell.One ∷ cell.Zero ∷ []) ∷ [])
    ∷ [])
    [])
    ∷ []

cross : says cross_text cross_net
unfolding says
cross = (refl, refl)

-- an output of a call that is an input of it
abbrev chain_text : List (List ℕ)
chain_text =
    codes ".model top"
    ∷ codes ".inputs a"
    ∷ codes ".outputs r"
    ∷ codes ".subckt two x=a y=m u=m v=r"
    ∷ codes ".model two"
    ∷ codes ".inputs x y"
    ∷ codes ".outputs u v"
    ∷ codes ".names x u"
    ∷ codes "0 1"
    ∷ codes ".names y v"
    ∷ codes "0 1"
    ∷ []

abbrev chain_net : List ModelDef
chain_net =
    (model (codes "top") (codes "a" ∷ []) (codes "r" ∷ [])
    []
    (call 4 (codes "two") (pin (codes "x") (codes "a") ∷ pin (codes "y") (codes "m") ∷ pin (codes "u") (codes "m") ∷ pin (codes "v") (codes "r") ∷ [])
    ∷ []))
    ∷ (model (codes "two") (codes "x" ∷ codes "y" ∷ []) (codes "u" ∷ codes "v" ∷ [])
    (gate 8 (codes "x" ∷ []) (codes "u") true ((cell.Zero ∷ []) ∷ [])
    ∷ gate 10 (codes "y" ∷ []) (codes "v") true ((cell.Zero ∷ []) ∷ [])
    ∷ [])
    [])
    ∷ []

chain : says chain_text chain_net
unfolding says
chain = (refl, refl)

-- the same with a ring, which is no fault of a line
abbrev ring_text : List (List ℕ)
ring_text =
    codes ".model top"
    ∷ codes ".inputs a"
    ∷ codes ".outputs r"
    ∷ codes ".subckt two x=m y=a u=m v=r"
    ∷ codes ".model two"
    ∷ codes ".inputs x y"
    ∷ codes ".outputs u v"
    ∷ codes ".names x u"
    ∷ codes "0 1"
    ∷ codes ".names y v"
    ∷ codes "0 1"
    ∷ []

abbrev ring_net : List ModelDef
ring_net =
    (model (codes "top") (codes "a" ∷ []) (codes "r" ∷ [])
    []
    (call 4 (codes "two") (pin (codes "x") (codes "m") ∷ pin (codes "y") (codes "a") ∷ pin (codes "u") (codes "m") ∷ pin (codes "v") (codes "r") ∷ [])
    ∷ []))
    ∷ (model (codes "two") (codes "x" ∷ codes "y" ∷ []) (codes "u" ∷ codes "v" ∷ [])
    (gate 8 (codes "x" ∷ []) (codes "u") true ((cell.Zero ∷ []) ∷ [])
    ∷ gate 10 (codes "y" ∷ []) (codes "v") true ((cell.Zero ∷ []) ∷ [])
    ∷ [])
    [])
    ∷ []

ring : says ring_text ring_net
unfolding says
ring = (refl, refl)

-- what a synthesizer writes: constants, names with brackets and an ignored line
abbrev synth_text : List (List ℕ)
synth_text =
    codes "# constants and an ignored line"
    ∷ codes ""
    ∷ codes ".model top"
    ∷ codes ".inputs a[0] a[1]"
    ∷ codes ".outputs y"
    ∷ codes ".names $false"
    ∷ codes ".names $true"
    ∷ codes "1"
    ∷ codes ".names $undef"
    ∷ codes ".names a[0] a[1] y"
    ∷ codes "11 1"
    ∷ codes ".attr src \"top.v:3\""
    ∷ codes ".end"
    ∷ []

abbrev synth_net : List ModelDef
synth_net =
    (model (codes "top") (codes "a[0]" ∷ codes "a[1]" ∷ []) (codes "y" ∷ [])
    (gate 6 [] (codes "$false") true []
    ∷ gate 7 [] (codes "$true") true ([] ∷ [])
    ∷ gate 9 [] (codes "$undef") true []
    ∷ gate 10 (codes "a[0]" ∷ codes "a[1]" ∷ []) (codes "y") true ((cell.One ∷ cell.One ∷ []) ∷ [])
    ∷ [])
    [])
    ∷ []

synth : says synth_text synth_net
unfolding says
synth = (refl, refl)

-- a gate whose plane lacks a cell is none
short_plane : IsGate (gate 1 (codes "a" ∷ codes "b" ∷ []) (codes "y") true ((cell.One ∷ []) ∷ [])) → ⊥
short_plane h = let e : 1 ≡ 2 = h.planes 0 [] (omega arith) in absurd (omega (arith, e))

-- nor is one whose empty cover is off
empty_off : IsGate (gate 1 [] (codes "y") false []) → ⊥
empty_off h = let e : false ≡ true = h.empty refl in cc
