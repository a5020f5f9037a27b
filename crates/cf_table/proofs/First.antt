use Rattle.std.proofs.Common.{◌≡◌, ℕ, suc, ◌<◌, ◌≤◌, List, [], ◌∷◌, length, map, get_or, Some, sym, ◌∙◌, ap, arith, inl, inr}
use Rattle.std.proofs.lemmas.Bool.{cases_lt}
use Rattle.std.proofs.lemmas.List.{get_or-map}
use Rattle.std.proofs.lemmas.Option.{slice_get-get_or}
use Rattle.cf_model.specs.Renumbering.{width, Grows, IsNew}
use Rattle.cf_model.specs.Diagrams.{Connection, no_connection, connection_at, all_returns}
use Rattle.cf_model.proofs.Growth.{width-append, Grows-left, Grows-right}
use Rattle.cf_model.proofs.RenumberingLaws.{reached_at}
use Rattle.cf_table.specs.declared.BConn.{BConn}
use Rattle.cf_table.specs.Groupings.{tuple_of, connection_of}
use Rattle.cf_table.proofs.Told.{blank}

-- a number that the return tuples give out stands in one of them
pub given_out : (bs : List Connection) (n e : ℕ) → Grows n (all_returns bs) → n ≤ e → e < width n (all_returns bs) → ((k : ℕ) → k < length bs → IsNew (connection_at bs k).returns e) → ⊥
given_out [] n e g h w new = omega (arith, h, w)
given_out (b ∷ bs) n e g h w new =
    let rest = all_returns bs in
    elim (cases_lt e (width n b.returns)) [
      | inl l ↦ (let r = reached_at n b.returns (Grows-left n b.returns rest g) e h l in new 0 (omega arith) r.0 (slice_get-get_or b.returns r.0 0 r.1 ∙ ap Some r.2))
      | inr m ↦ given_out bs (width n b.returns) e (Grows-right n b.returns rest g) m (omega (arith, w, width-append n b.returns rest)) (λ k hk. new (suc k) (omega (arith, hk)))
    ]

-- the return tuple of a middle vertex, by its id
pub returns_read : (tuples : List (List ℕ)) (bs : List BConn) (cs : List Connection) (j : ℕ) → map (connection_of tuples) bs ≡ cs → j < length bs → tuple_of tuples (get_or bs j blank).ret ≡ (connection_at cs j).returns
returns_read tuples bs cs j e h = ap (λ (c : Connection). c.returns) (sym (get_or-map (connection_of tuples) bs j blank no_connection h) ∙ ap (λ (ds : List Connection). connection_at ds j) e)
