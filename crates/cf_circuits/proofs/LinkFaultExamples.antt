-- The nine kinds of faults on worked examples.
use Rattle.std.proofs.Common.{ℕ, ◌≡◌, ◌+◌, zero, suc, List, [], ◌∷◌, Some, None, true, false, refl}
use Rattle.std.specs.Prelude.{codes}
use Rattle.cf_order.specs.Chains.{chains, total}
use Rattle.cf_circuits.specs.declared.faults.LinkFault.TheVariants.{NoModel, TwiceDriven, Recursive, TooDeep, Cycle}
use Rattle.cf_circuits.specs.declared.models.ModelDef.{ModelDef}
use Rattle.cf_circuits.specs.Expansions.{cval}
use Rattle.cf_circuits.specs.LinkFaults.{number_of, name_of, is_deep, weights_of, expansion, link}
use Rattle.cf_circuits.specs.Links.{calls_of}
use Rattle.cf_circuits.proofs.LinkExamples.{pin, call, model}
use Rattle.cf_circuits.proofs.ExpansionExamples.{twice, chain, ring, not_of}

twice_links : link twice ≡ None
unfolding cval total chains
twice_links = refl

chain_links : link chain ≡ None
unfolding cval total chains
chain_links = refl

gates_in_a_ring : link ring ≡ Some Cycle
unfolding cval total chains
gates_in_a_ring = refl

-- a model that hands its input back, and a root that connects the two
abbrev through_wire : List ModelDef
through_wire =
    model (codes "top") [] [] []
    (call 2 (codes "wire") (pin (codes "a") (codes "s") ∷ pin (codes "y") (codes "s") ∷ []) ∷ [])
    ∷ model (codes "wire") (codes "a" ∷ []) (codes "y" ∷ []) (not_of (codes "a") (codes "y") ∷ []) []
    ∷ []

ring_through_a_call : link through_wire ≡ Some Cycle
unfolding cval total chains
ring_through_a_call = refl

-- models that call one another: the first of them in the file is told
abbrev calling : List ℕ → List ℕ → ModelDef
calling name other = model name [] [] [] (call 2 other [] ∷ [])

abbrev one_another : List ModelDef
one_another =
    calling (codes "top") (codes "b") ∷ calling (codes "b") (codes "c") ∷ calling (codes "c") (codes "b") ∷ []

recursive : link one_another ≡ Some (Recursive (codes "b"))
unfolding cval total chains
recursive = refl

-- an earlier kind counts first
no_model_first : link (calling (codes "top") (codes "top") ∷ calling (codes "b") (codes "gone") ∷ []) ≡ Some (NoModel (codes "gone"))
unfolding cval total chains
no_model_first = refl

two_chains : expansion twice ≡ [] ∷ (0 ∷ []) ∷ (1 ∷ []) ∷ []
unfolding chains
two_chains = refl

-- two calls, and a gate in each copy
four_gates_and_calls : total (calls_of twice) (weights_of twice) 64 0 ≡ 4
unfolding total chains
four_gates_and_calls = refl

-- models k, k + 1, .. each of which calls the next, n of them, and one that calls none
abbrev tower : ℕ → ℕ → List (List ℕ)
tower k zero = [] ∷ []
tower k (suc n) = ((k + 1) ∷ []) ∷ tower (k + 1) n

as_deep_as_can_be : is_deep (tower 0 64) ≡ false
unfolding chains
as_deep_as_can_be = refl

one_call_deeper : is_deep (tower 0 65) ≡ true
unfolding chains
one_call_deeper = refl

told : name_of (TwiceDriven (codes "a")) ≡ Some (codes "a")
told = refl

numbered : number_of TooDeep ≡ 7
numbered = refl
