-- The faults that names and blocks have are those that a netlist is said to have.
use Rattle.std.proofs.Common.{◌≡◌, zero, suc, ℕ, ◌+◌, ◌<◌, ◌≤◌, Bool, true, false, List, [], ◌∷◌, Option, Some, None, length, get_or, take, reverse, refl, sym, ap, ◌∙◌, subst, arith}
use Rattle.std.specs.Prelude.{nat_lt}
use Rattle.std.specs.List.{slice_get, list_any, All, Contains}
use Rattle.std.specs.Option.{option_and_then}
use Rattle.std.proofs.lemmas.Bool.{lt-ltb, le-ltb}
use Rattle.std.proofs.lemmas.List.{reverse-reverse, length-reverse}
use Rattle.std.proofs.lemmas.Option.{slice_get-get_or}
use Rattle.cf_order.specs.Orders.{row, HasNoRing}
use Rattle.cf_order.specs.Chains.{end_of, IsChain, chains, total}
use Rattle.cf_order.proofs.ChainLaws.{each_listed, lists_chains}
use Rattle.cf_circuits.specs.declared.models.ModelDef.{ModelDef}
use Rattle.cf_circuits.specs.declared.faults.LinkFault.{LinkFault}
use Rattle.cf_circuits.specs.declared.faults.LinkFault.TheVariants.{NoModel, NoFormal, Unconnected, TwiceDriven, Undriven, Recursive, TooDeep, TooLarge, Cycle}
use Rattle.cf_circuits.specs.Links.{names_of, calls_of}
use Rattle.cf_circuits.specs.LinkFaults.{recursive_from, is_deep, is_large, weights_of, or_recursive, or_deep, or_large, or_cycle, link}
use Rattle.cf_hierarchy.specs.declared.blocks.Block.{Block}
use Rattle.cf_hierarchy.specs.Hierarchy.{block_at, IsBlock}
use Rattle.cf_hierarchy.specs.Spreads.{no_block, IsAtMostDeep}
use Rattle.cf_hierarchy.specs.Links.{calls, expanded, IsTooDeep}
use Rattle.cf_hierarchy.proofs.SpreadLaws.{then_cases}
use Rattle.cf_hierarchy.proofs.PathLaws.{block_end, end_within}
use Rattle.cf_links.specs.Faults.{IsNameFault, HasNoNameFault}
use Rattle.cf_blocks.specs.Numbering.{blocks_of}
use Rattle.cf_flat.proofs.NameFacts.{no-kinds}
use Rattle.cf_flat.proofs.LinkedBlocks.{blocks-length, blocks-ok, calls-same}
use Rattle.cf_flat.proofs.RecursionLaws.{any-from, any-none, contains-get, get-contains, first-told, none-told}

-- a fault of names is the netlist's
pub name-fault-link : (models : List ModelDef) (fault : LinkFault) → IsNameFault models fault → link models ≡ Some fault
name-fault-link models (NoModel name) h = ap (or_recursive models) h
name-fault-link models (NoFormal name) h = ap (or_recursive models) h
name-fault-link models (Unconnected name) h = ap (or_recursive models) h
name-fault-link models (TwiceDriven name) h = ap (or_recursive models) h
name-fault-link models (Undriven name) h = ap (or_recursive models) h
name-fault-link models (Recursive name) (none, h) =
    ap (or_recursive models) none ∙ ap (or_deep models) (first-told (calls_of models) (names_of models) h.at name h.first h.is_it)
name-fault-link models TooDeep h = ap (or_recursive models) h
name-fault-link models TooLarge h = ap (or_recursive models) h
name-fault-link models Cycle h = ap (or_recursive models) h

-- without faults of names it is one of the kinds 7 to 9
later-link : (models : List ModelDef) → HasNoNameFault models → link models ≡ or_large models (is_deep (calls_of models))
later-link models h = ap (or_recursive models) h.none ∙ ap (or_deep models) (none-told (calls_of models) (names_of models) h.ring)

-- the first calls of a chain
front : (rows : List (List ℕ)) (m n : ℕ) (is : List ℕ) (e : ℕ) → end_of rows m is ≡ Some e → n ≤ length is
    → IsChain rows m (take n is) × (length (take n is) ≡ n)
front rows m zero is e h l = ((m, refl), refl)
front rows m (suc n) [] e h l = absurd (omega (arith, l))
front rows m (suc n) (i ∷ is) e h l =
    let c = then_cases (λ c. end_of rows c is) (slice_get (row rows m) i) e h in
    let later = front rows c.0 n is e c.2 (omega (arith, l)) in
    ((later.0.0, ap (option_and_then (λ c. end_of rows c (take n is))) c.1 ∙ later.0.1), ap suc later.1)

-- a chain that is too long
deep-from : (rows : List (List ℕ)) (is : List ℕ) (e : ℕ) → end_of rows 0 is ≡ Some e → 64 < length is → is_deep rows ≡ true
deep-from rows is e h long =
    let f = front rows 0 65 is e h (omega (arith, long)) in
    let same = f.1 in
    let at = contains-get (chains rows 65 0) (take 65 is) (each_listed rows 65 0 (take 65 is) f.0 (omega (arith, same))) in
    any-from (λ is. nat_lt 64 (length is)) (chains rows 65 0) at.0 (take 65 is) at.1 (lt-ltb 64 (length (take 65 is)) (omega (arith, same)))

-- no chain is too long
not-deep-from : (blocks : List Block) → All (IsBlock blocks) blocks → 0 < length blocks → IsAtMostDeep blocks 64 → is_deep (calls blocks) ≡ false
not-deep-from blocks ok some deep =
    any-none (λ is. nat_lt 64 (length is)) (chains (calls blocks) 65 0)
    (λ k is at.
    let chain = (lists_chains (calls blocks) 65 0).only is (get-contains (chains (calls blocks) 65 0) k is at) in
    let e = chain.0.0 in
    let within = end_within blocks ok 0 some is e chain.0.1 in
    let there : block_at blocks (reverse is) ≡ Some (get_or blocks e no_block) =
    block_end blocks (reverse is)
    ∙ ap (λ js. option_and_then (slice_get blocks) (end_of (calls blocks) 0 js)) (reverse-reverse is)
    ∙ ap (option_and_then (slice_get blocks)) chain.0.1
    ∙ slice_get-get_or blocks e no_block within in
    let short = deep (reverse is) (get_or blocks e no_block) there in
    let same = length-reverse is in
    le-ltb 64 (length is) (omega (arith, short, same)))

pub deep-link : (models : List ModelDef) → HasNoNameFault models → IsTooDeep (blocks_of models) → link models ≡ Some TooDeep
deep-link models h deep =
    let end = then_cases (slice_get (blocks_of models)) (end_of (calls (blocks_of models)) 0 (reverse deep.path)) deep.block
    (sym (block_end (blocks_of models) deep.path) ∙ deep.there) in
    let long = deep.long in
    let same = length-reverse deep.path in
    later-link models h
    ∙ ap (or_large models)
    (ap is_deep (sym (calls-same models))
    ∙ deep-from (calls (blocks_of models)) (reverse deep.path) end.0 end.1 (omega (arith, long, same)))

not-deep : (models : List ModelDef) → 0 < length models → HasNoNameFault models → IsAtMostDeep (blocks_of models) 64
    → link models ≡ or_cycle models (is_large models)
not-deep models some h deep =
    let long = blocks-length models models 0 in
    later-link models h
    ∙ ap (or_large models)
    (ap is_deep (sym (calls-same models))
    ∙ not-deep-from (blocks_of models) (blocks-ok models (no-kinds models h.none)) (omega (arith, some, long)) deep)

expanded-same : (models : List ModelDef) → expanded (blocks_of models) (weights_of models) ≡ total (calls_of models) (weights_of models) 64 0
expanded-same models = ap (λ rows. total rows (weights_of models) 64 0) (calls-same models)

pub large-link : (models : List ModelDef) → 0 < length models → HasNoNameFault models → IsAtMostDeep (blocks_of models) 64
    → 1000000 < expanded (blocks_of models) (weights_of models) → link models ≡ Some TooLarge
large-link models some h deep large =
    let same = expanded-same models in
    not-deep models some h deep
    ∙ ap (or_cycle models) (lt-ltb 1000000 (total (calls_of models) (weights_of models) 64 0) (omega (arith, large, same)))

-- neither too deep nor too large
pub small-link : (models : List ModelDef) → 0 < length models → HasNoNameFault models → IsAtMostDeep (blocks_of models) 64
    → expanded (blocks_of models) (weights_of models) ≤ 1000000 → link models ≡ or_cycle models false
small-link models some h deep small =
    let same = expanded-same models in
    not-deep models some h deep
    ∙ ap (or_cycle models) (le-ltb 1000000 (total (calls_of models) (weights_of models) 64 0) (omega (arith, small, same)))
