use Rattle.std.specs.Prelude.{◌≡◌, ℕ, ◌≤◌, ◌^◌, List, flat_map}
use Rattle.cf_model.specs.Renumbering.{width, Grows}
use Rattle.cf_model.specs.Diagrams.{count, exits, IsGoodConnection}
use Rattle.cf_table.specs.declared.BConn.{BConn}
use Rattle.cf_table.specs.Groupings.{Groupings, tuple_of, connection_of, IsConnectionOver}

-- the return tuples of B-connections, one after another
abbrev pub returns_of : List (List ℕ) → List BConn → List ℕ
returns_of tuples bs = flat_map (λ b. tuple_of tuples b.ret) bs

-- The list numbers by first reach after the numbers below `before`, and leaves those below `now`, which a word counts.
pub record IsNumberedOn (before : ℕ) (list : List ℕ) (now : ℕ) : Type 0 where
  pub grows : Grows before list
  pub given_out : now ≡ width before list
  pub fits : now ≤ 2 ^ 64

-- A B-connection is a good one of a node above level l.
pub record IsGoodOver (t : Groupings) (l : ℕ) (b : BConn) : Type 0 where
  pub over : IsConnectionOver t l b
  pub good : IsGoodConnection (count t.levels l) (exits t.levels l) (connection_of t.tuples b)
