use Rattle.std.specs.Prelude.{ℕ, ◌*◌, List, []}
use Rattle.std.specs.List.{zip}
use Rattle.cf_model.specs.Renumbering.{rgs}
use Rattle.cf_model.specs.Patterns.{Pattern, sub, work_size}
use Rattle.cf_model.specs.PairSums.{same_pair}
use Rattle.cf_table.specs.Groupings.{pattern_of, grouping_pattern}
use Rattle.cf_table.specs.Triples.{zip3}
use Rattle.cf_pair.specs.Triples.{same_triple}
use Rattle.cf_pkg.specs.declared.Func.{Func}
use Rattle.cf_pkg.specs.Tasks.{Task}
use Rattle.cf_pkg.specs.Tasks as task
use Rattle.cf_pkg.specs.Packages.{Package}

-- all that the product of two functions' groupings is made of, the pattern of the pairs of their exits
abbrev pub pair_parts : Package → Func → Func → List Pattern
pair_parts p f g = sub f.head.level (rgs same_pair (zip (pattern_of p.groupings f.head) (pattern_of p.groupings g.head)))

-- the same for three functions
abbrev pub triple_parts : Package → Func → Func → Func → List Pattern
triple_parts p f g h =
    sub f.head.level (rgs same_triple (zip3 (pattern_of p.groupings f.head) (pattern_of p.groupings g.head) (pattern_of p.groupings h.head)))

-- all that the product of an operation's groupings is made of: an operation on one function makes no product
abbrev pub product_parts : Package → Task → List Pattern
product_parts p (task.Apply tree f g) = pair_parts p f g
product_parts p (task.Ternary tree f g h) = triple_parts p f g h
product_parts p other = []

-- how many steps the product of two functions' groupings may take
abbrev pub pair_steps : Package → Func → Func → ℕ
pair_steps p f g = 2 * (work_size (grouping_pattern p.groupings.levels f.head) * work_size (grouping_pattern p.groupings.levels g.head))
