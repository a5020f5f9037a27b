use Rattle.std.proofs.Common.{◌≡◌, ◌↔◌, IsTrue, sym, ◌∙◌, rules}
use Rattle.std.proofs.lemmas.Bool.{false≢true}
use Rattle.cf_pkg.proofs.Turn.{dont_care_exit, fork_exit}
use Rattle.cf_witness.proofs.next.base_exit.Goals as goal

pub returns-then-eq : goal.returns-then-eq
returns-then-eq c =
    let one : IsTrue c.eq.result ↔ (c.args.g ≡ record { level = 0; at = 0 }) = search rules in
    sym (dont_care_exit c.args.table.now.levels c.args.g c.args.bit (one.0 c.if-eq.true))

pub returns-else-eq : goal.returns-else-eq
returns-else-eq c =
    let one : IsTrue c.eq.result ↔ (c.args.g ≡ record { level = 0; at = 0 }) = search rules in
    fork_exit c.args.table.now.levels c.args.g c.args.bit c.requires.bit c.requires.level (λ e. false≢true (sym c.if-eq.false ∙ one.1 e))
