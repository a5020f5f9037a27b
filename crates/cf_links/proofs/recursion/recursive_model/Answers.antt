use Rattle.std.proofs.Common.{◌≡◌, ◌<◌, ap, ◌∙◌, sym, subst, length, arith, ℕ, List, Some}
use Rattle.std.specs.List.{All, slice_get}
use Rattle.std.proofs.lemmas.List.{length-map}
use Rattle.cf_order.specs.Orders.{IsRing}
use Rattle.cf_order.specs.Rings.{IsFirstOnRing, HasNoneOnRing}
use Rattle.cf_circuits.specs.Links.{calls_of, names_of}
use Rattle.cf_links.specs.Directories.{places_of}
use Rattle.cf_links.proofs.CallsRings.{calls-within, ring-lies, first-within}
use Rattle.cf_links.proofs.recursion.recursive_model.Goals as goal

pub order_of-requires : goal.order_of-requires
order_of-requires c =
    subst (λ (rows : List (List ℕ)). All (All (λ t. t < length rows)) rows) (sym (c.as_slice.ensures.value ∙ c.in_ok-rows.ensures))
    (calls-within c.args.directory.now c.requires)

pub first_on_ring-requires-clause-below : goal.first_on_ring-requires-clause-below
first_on_ring-requires-clause-below c =
    subst (λ (rows : List (List ℕ)). All (All (λ t. t < length rows)) rows) (sym (c.as_slice-2.ensures.value ∙ c.in_ok-rows.ensures))
    (calls-within c.args.directory.now c.requires)

pub name_at-requires : goal.name_at-requires
name_at-requires c =
    let models = c.args.directory.now in
    let first = subst (λ rows. IsFirstOnRing rows c.in-Some.at) (c.as_slice-2.ensures.value ∙ c.in_ok-rows.ensures)
    (rw c.in-Some.is at c.in_ok-at.ensures) in
    let within = first-within (calls_of models) c.in-Some.at first in
    omega (arith, within, ap length c.models.ensures, length-map models (places_of models))

pub unreachable-requires : goal.unreachable-requires
unreachable-requires c =
    let ring : IsRing (calls_of c.args.directory.now) c.in-Err-Ring.field-0-0 =
    subst (λ rows. IsRing rows c.in-Err-Ring.field-0-0) (c.as_slice.ensures.value ∙ c.in_ok-rows.ensures)
    (rw c.in-Err-Ring.field-0-is at c.in-Err-Ring.ensures.ring) in
    ring-lies (calls_of c.args.directory.now) c.in-Err-Ring.field-0-0 ring
    (subst (λ (rows : List (List ℕ)). HasNoneOnRing rows (length rows)) (c.as_slice-2.ensures.value ∙ c.in_ok-rows.ensures)
    (rw c.in-None.is at c.in_ok-at.ensures))

pub returns : goal.returns
returns c =
    record {
      at = c.in-Some.at;
      first = subst (λ rows. IsFirstOnRing rows c.in-Some.at) (c.as_slice-2.ensures.value ∙ c.in_ok-rows.ensures)
          (rw c.in-Some.is at c.in_ok-at.ensures);
      is_it = subst (λ models. slice_get (names_of models) c.in-Some.at ≡ Some c.in_ok-name_at-in-Some.field-0)
          c.models.ensures c.in_ok-name_at-in-Some.ensures;
    }
