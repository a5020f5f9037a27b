-- The flat circuit that the gates, wires and covers of a netlist make.
use Rattle.std.proofs.Common.{Result, Ok, Err, take, ℕ, zero, suc, ◌≡◌, ◌+◌, ◌<◌, ◌≤◌, Bool, true, false, cond, List, [], ◌∷◌, ◌++◌, length, get_or, map, None, Some, refl, sym, ◌∙◌, ap, subst, arith}
use Rattle.std.specs.Prelude.{slice_index}
use Rattle.std.specs.List.{slice_get, All}
use Rattle.std.specs.Result.{IfErr, IsErrAnd}
use Rattle.std.specs.Str.{bytes_eq}
use Rattle.std.proofs.Math.Seq.{take-suc}
use Rattle.std.proofs.lemmas.List.{map-id, map-append}
use Rattle.std.proofs.lemmas.List.Elements.{All-append, All-head, All-tail, All-map}
use Rattle.std.proofs.lemmas.Option.{get_or_from_slice_get, slice_get-get_or, slice_get_within}
use Rattle.cf_model.specs.Renumbering.{place, note, distinct, distinct_on}
use Rattle.cf_circuits.specs.declared.gates.Cover.{Cover}
use Rattle.cf_circuits.specs.declared.models.ModelDef.{ModelDef}
use Rattle.cf_circuits.specs.Kept.{IsNetlist}
use Rattle.cf_circuits.specs.Links.{is_among, no_model}
use Rattle.cf_circuits.specs.Expansions.{signals, circuit_value}
use Rattle.cf_circuits.specs.LinkFaults.{link, weights_of}
use Rattle.cf_circuits.specs.Roots.{inputs_of, outputs_of, root}
use Rattle.cf_hierarchy.specs.declared.blocks.Block.{Block}
use Rattle.cf_hierarchy.specs.declared.gates.Gate.{Gate}
use Rattle.cf_hierarchy.specs.declared.flat.Flat as hierarchy
use Rattle.cf_hierarchy.specs.declared.linking.LinkFault as numbered
use Rattle.cf_hierarchy.specs.declared.linking.LinkFault.TheVariants as block
use Rattle.cf_hierarchy.specs.Circuits.{UsesLower}
use Rattle.cf_hierarchy.specs.Flattening.{HaveRootWires, HaveValues, IsGateIn, ShowRoot}
use Rattle.cf_hierarchy.specs.Links.{signals_within, HasNoFault, HasFault}
use Rattle.cf_links.specs.Faults.{HasNoNameFault}
use Rattle.cf_blocks.specs.Numbering.{number, covers_of, blocks_of}
use Rattle.cf_flat.specs.declared.flat.Flat.{Flat}
use Rattle.cf_flat.specs.declared.flat.Out.{Out}
use Rattle.cf_flat.specs.Flats.{IsFlat, cover_at, wire_value}
use Rattle.cf_flat.specs.Flattening.{HasValues, IsFault, IsLinked, of_blocks, out_at}
use Rattle.cf_flat.specs.Kinds.{IsFirst}
use Rattle.cf_flat.proofs.BlockLaws as places
use Rattle.cf_flat.proofs.DriverLaws.{map-map}
use Rattle.cf_flat.proofs.NameFacts.{no-kinds, linked}
use Rattle.cf_flat.proofs.LinkedBlocks.{all-get, number-below, root-there, root-block}
use Rattle.cf_flat.proofs.NamedLaws.{wires-values}
use Rattle.cf_flat.proofs.KindLaws.{blocks-first, faultless}
use Rattle.cf_flat.proofs.GateFacts.{has-cover}

-- the first model that is read is the root
pub first-is-root : (models : List ModelDef) (m : ModelDef) → 0 < length models → get_or models 0 m ≡ root models
first-is-root models m some =
    sym (get_or_from_slice_get models 0 (get_or models 0 m) no_model (slice_get-get_or models 0 m some))

pub root-inputs : (models : List ModelDef) (m : ModelDef) (names : List (List ℕ)) → 0 < length models
    → names ≡ (get_or models 0 m).inputs → names ≡ inputs_of models
root-inputs models m names some n = n ∙ ap (λ (m : ModelDef). m.inputs) (first-is-root models m some)

pub root-inputs-length : (models : List ModelDef) (m : ModelDef) (names : List (List ℕ)) → 0 < length models
    → names ≡ (get_or models 0 m).inputs → length names ≡ length (inputs_of models)
root-inputs-length models m names some n = ap length (root-inputs models m names some n)

pub root-outputs : (models : List ModelDef) (m : ModelDef) (names : List (List ℕ)) → 0 < length models
    → names ≡ (get_or models 0 m).outputs → distinct bytes_eq names ≡ outputs_of models
root-outputs models m names some n =
    ap (distinct bytes_eq) (n ∙ ap (λ (m : ModelDef). m.outputs) (first-is-root models m some))

all-none : {A : Type 0} (P : A → Type 0) → All P []
all-none P k d l = absurd (omega (arith, l))

all-one : {A : Type 0} (P : A → Type 0) (x : A) → P x → All P (x ∷ [])
all-one P x p zero d l = p
all-one P x p (suc k) d l = absurd (omega (arith, l))

all-also : {A : Type 0} (P Q : A → Type 0) (xs : List A) → ((x : A) → P x → Q x) → All P xs → All Q xs
all-also P Q xs f h k d l = f (get_or xs k d) (h k d l)

-- what holds of all names holds of the different ones
all-distinct : (P : List ℕ → Type 0) (seen xs : List (List ℕ)) → All P seen → All P xs → All P (distinct_on bytes_eq seen xs)
all-distinct P seen [] s h = s
all-distinct P seen (x ∷ xs) s h = all-distinct P (note bytes_eq seen x) xs (by (is_among seen x)) (All-tail P x xs h)
  where
    by : (b : Bool) → All P (cond b seen (seen ++ x ∷ []))
    by true = s
    by false = All-append P seen (x ∷ []) s (all-one P x (All-head P x xs h))

-- what holds of each name that the root lists as an output holds of its outputs
all-outputs : (models : List ModelDef) (P : List ℕ → Type 0)
    → ((i : ℕ) (name : List ℕ) → slice_get (root models).outputs i ≡ Some name → P name) → All P (outputs_of models)
all-outputs models P h = all-distinct P [] (root models).outputs (all-none P) (all-get P (root models).outputs h)

-- The number of an output is that of a signal that has a wire, which is an input or a gate's output.
pub record HasWire (models : List ModelDef) (l : hierarchy.Flat) (name : List ℕ) : Type 0 where
  pub there : number models (root models) name < length l.wires
  pub below : slice_index l.wires (number models (root models) name) < length (inputs_of models) + length l.gates

have-wires : (models : List ModelDef) (l : hierarchy.Flat) → IsNetlist models → HasNoNameFault models → IsLinked models l
    → All (HasWire models l) (outputs_of models)
have-wires models l net none is = all-outputs models (HasWire models l) (λ i name at.
    let there = root-there models net.root in
    let among = (linked models 0 (root models) (no-kinds models none.none) there).outputs i name at in
    let below = number-below models 0 (root models) name there among in
    let same = ap (λ (b : Block). length b.drivers) (root-block models net.root) in
    let has = is.wires (number models (root models) name) (omega (arith, below, same)) in
    record { there = has.0; below = has.1 })

pub outputs-within : (models : List ModelDef) (l : hierarchy.Flat) (names signals_there : List (List ℕ)) (wires : List ℕ) → IsNetlist models
    → HasNoNameFault models → IsLinked models l → names ≡ outputs_of models → signals_there ≡ signals models (root models)
    → wires ≡ l.wires → All (λ name. place bytes_eq signals_there name < length wires) names
outputs-within models l names signals_there wires net none is n s w =
    subst (λ ns. All (λ name. place bytes_eq signals_there name < length wires) ns) (sym n)
    (subst (λ ss. All (λ name. place bytes_eq ss name < length wires) (outputs_of models)) (sym s)
    (subst (λ ws. All (λ name. number models (root models) name < length ws) (outputs_of models)) (sym w)
    (all-also (HasWire models l) (λ name. number models (root models) name < length l.wires) (outputs_of models) (λ name has. has.there)
    (have-wires models l net none is))))

-- the circuit that is put together
abbrev pub flat-of : List ModelDef → hierarchy.Flat → Flat
flat-of models l = record {
  inputs = inputs_of models;
  outputs = map (out_at (signals models (root models)) l.wires) (outputs_of models);
  covers = covers_of models;
  gates = l.gates;
}

pub flat-is : (models : List ModelDef) (l : hierarchy.Flat) → IsNetlist models → HasNoNameFault models → IsLinked models l
    → IsFlat (flat-of models l)
flat-is models l net none is = record {
  lower = is.lower;
  covers = all-also (IsGateIn (blocks_of models)) (λ g. g.cover < length (covers_of models)) l.gates
      (λ g made. (has-cover models g net made).there) is.made;
  cells = all-also (IsGateIn (blocks_of models)) (λ g. All (λ plane. length plane ≡ length g.ins) (cover_at (covers_of models) g.cover).planes)
      l.gates (λ g made. (has-cover models g net made).cells) is.made;
  wires = All-map (λ (out : Out). out.wire < length (inputs_of models) + length l.gates) (out_at (signals models (root models)) l.wires)
      (outputs_of models)
      (all-also (HasWire models l) (λ name. slice_index l.wires (number models (root models) name) < length (inputs_of models) + length l.gates)
      (outputs_of models) (λ name has. has.below) (have-wires models l net none is));
}

pub flat-values : (models : List ModelDef) (l : hierarchy.Flat) → IsNetlist models → HasNoNameFault models → IsLinked models l
    → HasValues models (flat-of models l)
flat-values models l net none is bits long =
    All-map (λ (out : Out). circuit_value models bits out.name ≡ wire_value (flat-of models l) bits out.wire)
    (out_at (signals models (root models)) l.wires) (outputs_of models)
    (all-outputs models
    (λ name. circuit_value models bits name ≡ wire_value (flat-of models l) bits (slice_index l.wires (number models (root models) name)))
    (λ i name at. wires-values models net none l.gates l.wires is.shows is.few i name bits at long))

pub flat-names : (models : List ModelDef) (l : hierarchy.Flat) → map (λ (out : Out). out.name) (flat-of models l).outputs ≡ outputs_of models
flat-names models l =
    map-map (out_at (signals models (root models)) l.wires) (λ (out : Out). out.name) (outputs_of models) ∙ map-id (outputs_of models)

-- the circuit of these parts
abbrev pub made-of : List (List ℕ) → List Out → List Cover → List Gate → Flat
made-of inputs outputs covers gates = record { inputs = inputs; outputs = outputs; covers = covers; gates = gates }

-- The parts are those of the netlist.
pub record AreParts (models : List ModelDef) (l : hierarchy.Flat) (inputs : List (List ℕ)) (outputs : List Out) (covers : List Cover)
    : Type 0 where
  pub inputs_are : inputs ≡ inputs_of models
  pub outputs_are : outputs ≡ map (out_at (signals models (root models)) l.wires) (outputs_of models)
  pub covers_are : covers ≡ covers_of models

pub made-is : (models : List ModelDef) (l : hierarchy.Flat) (inputs : List (List ℕ)) (outputs : List Out) (covers : List Cover)
    → AreParts models l inputs outputs covers → made-of inputs outputs covers l.gates ≡ flat-of models l
made-is models l inputs outputs covers are =
    ap (λ is. made-of is outputs covers l.gates) are.inputs_are
    ∙ ap (λ os. made-of (inputs_of models) os covers l.gates) are.outputs_are
    ∙ ap (λ cs. made-of (inputs_of models) (map (out_at (signals models (root models)) l.wires) (outputs_of models)) cs l.gates) are.covers_are

pub outputs-are : (models : List ModelDef) (l : hierarchy.Flat) (names there : List (List ℕ)) (wires : List ℕ) (outputs : List Out)
    → names ≡ outputs_of models → there ≡ signals models (root models) → wires ≡ l.wires → outputs ≡ map (out_at there wires) names
    → outputs ≡ map (out_at (signals models (root models)) l.wires) (outputs_of models)
outputs-are models l names there wires outputs n t w o =
    o ∙ ap (λ ns. map (out_at there wires) ns) n ∙ ap (λ ts. map (out_at ts wires) (outputs_of models)) t
    ∙ ap (λ ws. map (out_at (signals models (root models)) ws) (outputs_of models)) w

-- a fault of blocks is the netlist's first
pub first-fault : (models : List ModelDef) (f : numbered.LinkFault) → IsFirst models f → IsFault models (of_blocks f)
first-fault models block.NoMemory h = tt
first-fault models block.TooDeep h = h
first-fault models block.TooLarge h = h
first-fault models block.Cycle h = h

pub linked-all : (models : List ModelDef) (blocks : List Block) (inputs : ℕ) (l : hierarchy.Flat) → blocks ≡ blocks_of models
    → inputs ≡ length (inputs_of models) → UsesLower inputs l.gates → All (IsGateIn blocks) l.gates
    → length l.wires ≤ signals_within blocks 64 → HaveRootWires blocks inputs l.gates l.wires → ShowRoot blocks inputs l.gates l.wires
    → IsLinked models l
linked-all models blocks inputs l b n lower made few wires shows = record {
  lower = subst (λ n. UsesLower n l.gates) n lower;
  made = subst (λ bs. All (IsGateIn bs) l.gates) b made;
  few = subst (λ bs. length l.wires ≤ signals_within bs 64) b few;
  wires = subst (λ n. HaveRootWires (blocks_of models) n l.gates l.wires) n (subst (λ bs. HaveRootWires bs inputs l.gates l.wires) b wires);
  shows = subst (λ n. ShowRoot (blocks_of models) n l.gates l.wires) n (subst (λ bs. ShowRoot bs inputs l.gates l.wires) b shows);
}

pub without-fault : (models : List ModelDef) (blocks : List Block) (weights wires : List ℕ) (inputs : ℕ) → IsNetlist models
    → HasNoNameFault models → blocks ≡ blocks_of models → weights ≡ weights_of models → inputs ≡ length (inputs_of models)
    → HasNoFault blocks weights → HaveValues blocks inputs wires → length wires ≤ signals_within blocks 64 → link models ≡ None
without-fault models blocks weights wires inputs net none b w n has known few =
    faultless models wires net none
    (subst (HasNoFault (blocks_of models)) w (subst (λ bs. HasNoFault bs weights) b has))
    (subst (λ n. HaveValues (blocks_of models) n wires) n (subst (λ bs. HaveValues bs inputs wires) b known))
    (subst (λ bs. length wires ≤ signals_within bs 64) b few)

pub with-fault : (models : List ModelDef) (blocks : List Block) (weights : List ℕ) (f : numbered.LinkFault) → IsNetlist models
    → HasNoNameFault models → blocks ≡ blocks_of models → weights ≡ weights_of models → HasFault blocks weights f
    → IsFault models (of_blocks f)
with-fault models blocks weights f net none b w has =
    first-fault models f
    (blocks-first models f net none (subst (λ ws. HasFault (blocks_of models) ws f) w (subst (λ bs. HasFault bs weights f) b has)))

-- one more element is mapped
pub map-next : {A B : Type 0} (f : A → B) (xs : List A) (i : ℕ) (x : A) (done now : List B) → slice_get xs i ≡ Some x
    → done ≡ map f (take i xs) → now ≡ done ++ f x ∷ [] → now ≡ map f (take (i + 1) xs)
map-next f xs i x done now h d n =
    let one : suc i ≡ i + 1 = omega arith in
    n ∙ ap (λ ys. ys ++ f x ∷ []) d ∙ sym (map-append f (take i xs) (x ∷ []))
    ∙ ap (λ y. map f (take i xs ++ y ∷ [])) (sym (get_or_from_slice_get xs i x x h))
    ∙ ap (map f) (sym (take-suc xs i x (slice_get_within xs i x h))) ∙ ap (λ k. map f (take k xs)) one

-- What is told of an error is told of the answer.
pub told : {A E : Type 0} (r : Result A E) (Q P : E → Type 0) → IsErrAnd r Q → ((e : E) → Q e → P e) → IfErr r P
told (Ok x) Q P q h = tt
told (Err e) Q P q h = h e q

-- The circuit of these parts is flat, with the netlist's outputs and values.
pub record IsAssembled (models : List ModelDef) (l : hierarchy.Flat) (inputs : List (List ℕ)) (outputs : List Out) (covers : List Cover)
    : Type 0 where
  pub flat : IsFlat (made-of inputs outputs covers l.gates)
  pub names : map (λ (out : Out). out.name) outputs ≡ outputs_of models
  pub values : HasValues models (made-of inputs outputs covers l.gates)

of-parts : (models : List ModelDef) (l : hierarchy.Flat) (inputs : List (List ℕ)) (outputs : List Out) (covers : List Cover)
    → IsNetlist models → HasNoNameFault models → IsLinked models l → AreParts models l inputs outputs covers
    → IsAssembled models l inputs outputs covers
of-parts models l inputs outputs covers net none is are = record {
  flat = subst IsFlat (sym (made-is models l inputs outputs covers are)) (flat-is models l net none is);
  names = ap (map (λ (out : Out). out.name)) are.outputs_are ∙ flat-names models l;
  values = subst (HasValues models) (sym (made-is models l inputs outputs covers are)) (flat-values models l net none is);
}

pub assembled : (models read : List ModelDef) (l : hierarchy.Flat) (first second : ModelDef) (listed given names there inputs : List (List ℕ))
    (wires : List ℕ) (outputs : List Out) (covers : List Cover) → read ≡ models → IsNetlist models → HasNoNameFault models
    → IsLinked read l → listed ≡ (get_or read 0 first).outputs → names ≡ distinct bytes_eq listed → there ≡ signals read (root read)
    → wires ≡ l.wires → outputs ≡ map (out_at there wires) names → given ≡ (get_or read 0 second).inputs → inputs ≡ given
    → covers ≡ covers_of read → IsAssembled models l inputs outputs covers
assembled models read l first second listed given names there inputs wires outputs covers e net none is li n t w o gi i c =
    let read-net = subst IsNetlist (sym e) net in
    subst (λ ms. IsAssembled ms l inputs outputs covers) e
    (of-parts read l inputs outputs covers read-net (subst HasNoNameFault (sym e) none) is (record {
      inputs_are = i ∙ root-inputs read second given read-net.root gi;
      outputs_are = outputs-are read l names there wires outputs (n ∙ root-outputs read first listed read-net.root li) t w o;
      covers_are = c;
    }))
