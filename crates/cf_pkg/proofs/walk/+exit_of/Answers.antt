use Rattle.std.proofs.Common.{◌≡◌, ◌↔◌, ◌<◌, ◌/◌, ◌^◌, ℕ, List, IsTrue, sym, subst, ap, ◌∙◌, arith, rules, length, get_or}
use Rattle.std.proofs.lemmas.Bool.{false≢true}
use Rattle.cf_model.specs.Assignments.{Assignment}
use Rattle.cf_table.specs.Groupings.{pattern_of}
use Rattle.cf_pkg.proofs.Turn.{First, Second, middle, place, answer, dont_care_exit, fork_exit, in_range, half_points}
use Rattle.cf_pkg.proofs.walk.+exit_of.Goals as goal

pub returns-then-eq-clause-exit : goal.returns-then-eq-clause-exit
returns-then-eq-clause-exit g t c =
    let one : IsTrue c.eq.result ↔ (c.args.g ≡ record { level = 0; at = 0 }) = search rules in
    sym (dont_care_exit c.args.table.now.levels c.args.g c.args.at.number (one.0 c.if-eq.true))

pub returns-else-eq-clause-exit : goal.returns-else-eq-clause-exit
returns-else-eq-clause-exit g t c =
    let one : IsTrue c.eq.result ↔ (c.args.g ≡ record { level = 0; at = 0 }) = search rules in
    let number : c.number-number.result ≡ c.args.at.number = c.number-number.ensures.number in
    let len : c.args.at.len ≡ 2 ^ 0 = c.requires.len ∙ ap (λ (k : ℕ). 2 ^ k) c.if-g-eq0.true in
    let below : c.args.at.number < 2 ^ c.args.at.len = omega (arith, c.number-number.ensures.below, number) in
    let small : c.args.at.number < 2 = subst (λ (k : ℕ). c.args.at.number < 2 ^ k) len below in
    number ∙ fork_exit c.args.table.now.levels c.args.g c.args.at.number small c.if-g-eq0.true (λ e. false≢true (sym c.if-eq.false ∙ one.1 e))

abbrev half : Assignment → ℕ
half at = 2 ^ (at.len / 2)

pub b_of-b-requires-clause-middle : goal.b_of-b-requires-clause-middle
b_of-b-requires-clause-middle g t c =
    let at = c.args.at in
    let a = c.a_of-a.result in
    let f : First c.args.table.now c.args.g a at.number (half at) c.exit_of-middle.result = record {
      good = c.law.ensures.good;
      owned = c.requires.owned;
      range = in_range c.args.g.level at.number at.len c.requires.len (omega (arith, c.number-number.ensures.below, c.number-number.ensures.number));
      half_is = half_points c.args.g.level a.level at.len c.a_of-a.ensures.level c.requires.len;
      level = c.a_of-a.ensures.level;
      callee = c.a_of-a.ensures.callee;
      exit = c.exit_of-middle.ensures.exit ∙ ap (λ (x : Assignment). get_or (pattern_of c.args.table.now a) x.number 0) c.halves-first.ensures.quotient;
    } in
    middle _ _ _ _ _ _ f

pub offset_bounds-tuple-exit : goal.offset_bounds-tuple-exit
offset_bounds-tuple-exit g t c =
    let at = c.args.at in
    let a = c.a_of-a.result in
    let f : First c.args.table.now c.args.g a at.number (half at) c.exit_of-middle.result = record {
      good = c.law.ensures.good;
      owned = c.requires.owned;
      range = in_range c.args.g.level at.number at.len c.requires.len (omega (arith, c.number-number.ensures.below, c.number-number.ensures.number));
      half_is = half_points c.args.g.level a.level at.len c.a_of-a.ensures.level c.requires.len;
      level = c.a_of-a.ensures.level;
      callee = c.a_of-a.ensures.callee;
      exit = c.exit_of-middle.ensures.exit ∙ ap (λ (x : Assignment). get_or (pattern_of c.args.table.now a) x.number 0) c.halves-first.ensures.quotient;
    } in
    let b = c.b_of-b.result in
    let s : Second c.args.table.now c.args.g a at.number (half at) c.exit_of-middle.result b c.exit_of-exit.result = record {
      first = f;
      level = c.b_of-b.ensures.level;
      connection = c.b_of-b.ensures.connection;
      exit = c.exit_of-exit.ensures.exit ∙ ap (λ (x : Assignment). get_or (pattern_of c.args.table.now b.«to») x.number 0) c.halves-first.ensures.remainder;
    } in
    let h = place _ _ _ _ _ _ _ _ s in
    omega (arith, h, c.tuple.type_inv, ap length c.tuple.ensures)

pub bounds-tuple-exit : goal.bounds-tuple-exit
bounds-tuple-exit g t c =
    let at = c.args.at in
    let a = c.a_of-a.result in
    let f : First c.args.table.now c.args.g a at.number (half at) c.exit_of-middle.result = record {
      good = c.law.ensures.good;
      owned = c.requires.owned;
      range = in_range c.args.g.level at.number at.len c.requires.len (omega (arith, c.number-number.ensures.below, c.number-number.ensures.number));
      half_is = half_points c.args.g.level a.level at.len c.a_of-a.ensures.level c.requires.len;
      level = c.a_of-a.ensures.level;
      callee = c.a_of-a.ensures.callee;
      exit = c.exit_of-middle.ensures.exit ∙ ap (λ (x : Assignment). get_or (pattern_of c.args.table.now a) x.number 0) c.halves-first.ensures.quotient;
    } in
    let b = c.b_of-b.result in
    let s : Second c.args.table.now c.args.g a at.number (half at) c.exit_of-middle.result b c.exit_of-exit.result = record {
      first = f;
      level = c.b_of-b.ensures.level;
      connection = c.b_of-b.ensures.connection;
      exit = c.exit_of-exit.ensures.exit ∙ ap (λ (x : Assignment). get_or (pattern_of c.args.table.now b.«to») x.number 0) c.halves-first.ensures.remainder;
    } in
    let h = place _ _ _ _ _ _ _ _ s in
    omega (arith, h, ap length c.tuple.ensures)

pub returns-clause-exit : goal.returns-clause-exit
returns-clause-exit g t c =
    let at = c.args.at in
    let a = c.a_of-a.result in
    let f : First c.args.table.now c.args.g a at.number (half at) c.exit_of-middle.result = record {
      good = c.law.ensures.good;
      owned = c.requires.owned;
      range = in_range c.args.g.level at.number at.len c.requires.len (omega (arith, c.number-number.ensures.below, c.number-number.ensures.number));
      half_is = half_points c.args.g.level a.level at.len c.a_of-a.ensures.level c.requires.len;
      level = c.a_of-a.ensures.level;
      callee = c.a_of-a.ensures.callee;
      exit = c.exit_of-middle.ensures.exit ∙ ap (λ (x : Assignment). get_or (pattern_of c.args.table.now a) x.number 0) c.halves-first.ensures.quotient;
    } in
    let b = c.b_of-b.result in
    let s : Second c.args.table.now c.args.g a at.number (half at) c.exit_of-middle.result b c.exit_of-exit.result = record {
      first = f;
      level = c.b_of-b.ensures.level;
      connection = c.b_of-b.ensures.connection;
      exit = c.exit_of-exit.ensures.exit ∙ ap (λ (x : Assignment). get_or (pattern_of c.args.table.now b.«to») x.number 0) c.halves-first.ensures.remainder;
    } in
    ap (λ (xs : List ℕ). get_or xs c.exit_of-exit.result 0) c.tuple.ensures ∙ answer _ _ _ _ _ _ _ _ s
