use Rattle.std.proofs.Common.{◌≡◌, suc, ◌++◌, ◌∷◌, [], length, refl, sym, ap, subst, ◌∙◌, arith, rules, Err}
use Rattle.cf_reference.specs.declared.grammar.Kind.{Kind}
use Rattle.cf_reference.specs.declared.grammar.Kind.TheVariants.{Expression}
use Rattle.cf_reference.specs.Heads.{kind_at, takes}
use Rattle.cf_reference.specs.Words.{words}
use Rattle.cf_reference.specs.Grammar.{lead}
use Rattle.cf_script.specs.declared.expressions.Fault.TheVariants.{Malformed}
use Rattle.cf_script.specs.Arguments.{gathered, over, as_arguments, IsArgument, SpellsNoArgument}
use Rattle.cf_script.specs.declared.arguments.Argument.TheVariants as argument
use Rattle.cf_script.proofs.OverFacts.{follows, first-follows}
use Rattle.cf_script.proofs.CallFacts.{none-empty, of-kinds, is-call, none-inside, none-called, is-leaf, none-leaf, argument-read, argument-word, none-argument, too-many, handed-on, if-ok, listed-read, listed-none, pushed-listed, as_many}
use Rattle.cf_script.proofs.ListFacts.{front-none, ends-none, front-more, ends-more, front-whole, no-next, no-end, other-number, pushed-length}
use Rattle.cf_script.proofs.expressions.+expressions.Goals as goal

pub read_expr-returns-in_default-clause-only : goal.read_expr-returns-in_default-clause-only
read_expr-returns-in_default-clause-only t c = λ _. none-empty (words c.args.text.now) c.in_default.ensures.none

pub read_expr-returns-in-Some-head_of-clause-found : goal.read_expr-returns-in-Some-head_of-clause-found
read_expr-returns-in-Some-head_of-clause-found t c =
    if-ok c.read_call.result _ _ c.read_call.ensures.found (λ r read.
    is-call c.in-Some-head_of.head r.0 c.in-Some.word.now (words c.args.text.now) (words c.in-Some.rest.now) (words c.in-Some-after.inside.now) (words r.1.now)
    c.in-Some.ensures.found c.in-Some-after.ensures.found c.in-Some-head_of.ensures read)

pub read_expr-returns-in-Some-head_of-clause-only : goal.read_expr-returns-in-Some-head_of-clause-only
read_expr-returns-in-Some-head_of-clause-only t c = λ e.
    none-inside c.in-Some-head_of.head c.in-Some.word.now (words c.args.text.now) (words c.in-Some.rest.now) (words c.in-Some-after.inside.now)
    c.in-Some.ensures.found c.in-Some-after.ensures.found c.in-Some-head_of.ensures (c.read_call.ensures.only e)

pub read_expr-returns-in-None-head_of-clause-only : goal.read_expr-returns-in-None-head_of-clause-only
read_expr-returns-in-None-head_of-clause-only t c = λ _.
    none-called c.in-Some.word.now (words c.args.text.now) (words c.in-Some.rest.now) (words c.in-Some-after.inside.now)
    c.in-Some.ensures.found c.in-Some-after.ensures.found c.in-None-head_of.ensures

pub read_expr-returns-in-Some-leaf-clause-found : goal.read_expr-returns-in-Some-leaf-clause-found
read_expr-returns-in-Some-leaf-clause-found t c =
    is-leaf c.in-Some-leaf.leaf c.in-Some.word.now (words c.args.text.now) (words c.in-Some.rest.now) c.in-Some.ensures.found c.in-None.ensures.none c.in-Some-leaf.ensures.found

pub read_expr-returns-in-None-leaf-clause-only : goal.read_expr-returns-in-None-leaf-clause-only
read_expr-returns-in-None-leaf-clause-only t c = λ _.
    none-leaf c.in-Some.word.now (words c.args.text.now) (words c.in-Some.rest.now) c.in-Some.ensures.found c.in-None.ensures.none c.in-None-leaf.ensures.none

pub read_argument-returns-in_err-e-clause-only : goal.read_argument-returns-in_err-e-clause-only
read_argument-returns-in_err-e-clause-only t c = λ e.
    let is : c.args.kind ≡ Expression = search rules in
    none-argument c.args.kind (words c.args.text.now) is (c.in_err-e.ensures.only (ap Err (sym (handed-on _ Malformed c.from_residual.result c.from_residual.ensures.1 e))))

pub read_argument-returns-then-eq-clause-found : goal.read_argument-returns-then-eq-clause-found
read_argument-returns-then-eq-clause-found t c =
    let is : c.args.kind ≡ Expression = search rules in
    argument-read c.args.kind c.in_ok-e.e (words c.args.text.now) (words c.in_ok-e.rest.now) is c.in_ok-e.ensures.found

pub read_argument-returns-in-Some-word_argument-clause-found : goal.read_argument-returns-in-Some-word_argument-clause-found
read_argument-returns-in-Some-word_argument-clause-found t c =
    argument-word c.args.kind c.in-Some-word_argument.argument c.in-Some.word.now (words c.args.text.now) (words c.in-Some.rest.now) c.in-Some.ensures.found c.in-Some-word_argument.ensures.found

pub gather-returns-in_err-first-clause-only : goal.gather-returns-in_err-first-clause-only
gather-returns-in_err-first-clause-only t c = λ e.
    no-next c.args.head 0 (words c.args.text.now) (words c.args.text.now) (words c.args.text.now) (ends-none c.args.head (words c.args.text.now)) refl
    (subst (λ (k : Kind). SpellsNoArgument k (words c.args.text.now)) c.kind_at.ensures (c.in_err-first.ensures.only (ap Err (sym (handed-on _ Malformed c.from_residual.result c.from_residual.ensures.1 e)))))

pub gather-loop-more-init : goal.gather-loop-more-init
gather-loop-more-init t c =
    let all = words c.args.text.now in
    let end = words c.in_ok-first.end.now in
    let is = c.push.ensures ∙ ap (λ xs. xs ++ c.in_ok-first.first ∷ []) c.requires.none in
    let read = subst (λ (k : Kind). IsArgument k c.in_ok-first.first all end) c.kind_at.ensures c.in_ok-first.ensures.found in
    record {
      shorter = c.in_ok-first.ensures.shorter;
      front = front-more c.args.head [] _ c.in_ok-first.first all all all end is (front-none c.args.head [] all refl) refl read;
      ends = (0, ap length is, ends-more c.args.head 0 c.in_ok-first.first all all all end (ends-none c.args.head all) refl read);
    }

pub gather-returns-then-is_full-clause-only : goal.gather-returns-then-is_full-clause-only
gather-returns-then-is_full-clause-only t c = λ e.
    let kept = c.loop-more.invariant in
    too-many c.args.head c.loop-more.args kept.ends.0 (words c.args.text.now) (words c.loop-more.end.now) (words c.in-Some.more.now) c.requires.few
    (sym c.is_full.ensures ∙ c.if-is_full.true) kept.ends.1 kept.ends.2 c.in-Some.ensures.found

pub gather-returns-in_err-argument-clause-only : goal.gather-returns-in_err-argument-clause-only
gather-returns-in_err-argument-clause-only t c = λ e.
    let kept = c.loop-more.invariant in
    let kind = c.kind_at-in-Some.ensures ∙ ap (kind_at c.args.head) (c.len.ensures ∙ kept.ends.1) in
    no-next c.args.head (suc kept.ends.0) (words c.args.text.now) (words c.loop-more.end.now) (words c.in-Some.more.now) kept.ends.2 c.in-Some.ensures.found
    (subst (λ (k : Kind). SpellsNoArgument k (words c.in-Some.more.now)) kind
    (c.in_err-argument.ensures.only (ap Err (sym (handed-on _ Malformed c.from_residual-in_err-argument.result c.from_residual-in_err-argument.ensures.1 e)))))

pub gather-loop-more-preserved : goal.gather-loop-more-preserved
gather-loop-more-preserved t c =
    let kept = c.loop-more.invariant in
    let all = words c.args.text.now in
    let end = words c.loop-more.end.now in
    let after = words c.in-Some.more.now in
    let rest = words c.in_ok-argument.rest.now in
    let kind = c.kind_at-in-Some.ensures ∙ ap (kind_at c.args.head) (c.len.ensures) in
    let read = subst (λ (k : Kind). IsArgument k c.in_ok-argument.argument after rest) kind c.in_ok-argument.ensures.found in
    record {
      shorter = omega (arith, kept.shorter, c.in_ok-argument.ensures.shorter, c.in-Some.ensures.shorter);
      front = front-more c.args.head (gathered c.loop-more.args) _ c.in_ok-argument.argument all end after rest c.push-in-Some.ensures kept.front
          (subst (λ n. end ≡ lead n ++ after) (sym kept.ends.1) c.in-Some.ensures.found) read;
      ends = (
        suc kept.ends.0,
        pushed-length kept.ends.0 (gathered c.loop-more.args) _ c.in_ok-argument.argument c.push-in-Some.ensures kept.ends.1,
        ends-more c.args.head (suc kept.ends.0) c.in_ok-argument.argument all end after rest kept.ends.2 c.in-Some.ensures.found
            (subst (λ n. IsArgument (kind_at c.args.head n) c.in_ok-argument.argument after rest) kept.ends.1 read),
      );
    }

pub gather-returns-then-takes-clause-found : goal.gather-returns-then-takes-clause-found
gather-returns-then-takes-clause-found t c =
    front-whole c.args.head c.loop-more.invariant.ends.0 (gathered c.loop-more.args) (words c.args.text.now) (words c.loop-more.end.now) (words c.in-Some-after.rest.now)
    c.loop-more.invariant.ends.1 c.loop-more.invariant.front c.in-Some-after.ensures.found
    (sym (c.takes.ensures ∙ ap (takes c.args.head) (c.len-in-Some-after.ensures)) ∙ c.if-takes.true)

pub gather-returns-else-takes-clause-only : goal.gather-returns-else-takes-clause-only
gather-returns-else-takes-clause-only t c = λ e.
    other-number c.args.head c.loop-more.invariant.ends.0 (words c.args.text.now) (words c.loop-more.end.now) c.loop-more.invariant.ends.2 c.in_default.ensures.none
    (sym (c.takes.ensures ∙ ap (takes c.args.head) (c.len-in-Some-after.ensures ∙ c.loop-more.invariant.ends.1)) ∙ c.if-takes.false)

pub gather-returns-in-None-clause-only : goal.gather-returns-in-None-clause-only
gather-returns-in-None-clause-only t c = λ e.
    no-end c.args.head c.loop-more.invariant.ends.0 (words c.args.text.now) (words c.loop-more.end.now) c.loop-more.invariant.ends.2 c.in_default.ensures.none c.in-None.ensures.none

pub gather_list-returns-in_err-first-clause-only : goal.gather_list-returns-in_err-first-clause-only
gather_list-returns-in_err-first-clause-only t c = λ e.
    no-next c.args.head 0 (words c.args.text.now) (words c.args.text.now) (words c.args.text.now) (ends-none c.args.head (words c.args.text.now)) refl
    (listed-none c.args.head 0 (words c.args.text.now) c.requires.list
    (c.in_err-first.ensures.only (ap Err (sym (handed-on _ Malformed c.from_residual.result c.from_residual.ensures.1 e)))))

pub gather_list-loop-more-init : goal.gather_list-loop-more-init
gather_list-loop-more-init t c =
    let all = words c.args.text.now in
    let end = words c.in_ok-first.end.now in
    let is = pushed-listed _ _ c.in_ok-first.first c.in_ok-push.ensures.ok ∙ ap (λ xs. as_arguments xs ++ argument.Expr c.in_ok-first.first ∷ []) c.requires.none in
    let read = listed-read c.args.head 0 c.in_ok-first.first all end c.requires.list c.in_ok-first.ensures.found in
    record {
      shorter = c.in_ok-first.ensures.shorter;
      front = front-more c.args.head [] _ _ all all all end is (front-none c.args.head [] all refl) refl read;
      ends = (0, ap length is, ends-more c.args.head 0 _ all all all end (ends-none c.args.head all) refl read);
    }

pub gather_list-returns-in_err-e-clause-only : goal.gather_list-returns-in_err-e-clause-only
gather_list-returns-in_err-e-clause-only t c = λ e.
    let kept = c.loop-more.invariant in
    no-next c.args.head (suc kept.ends.0) (words c.args.text.now) (words c.loop-more.end.now) (words c.in-Some.more.now) kept.ends.2 c.in-Some.ensures.found
    (listed-none c.args.head (suc kept.ends.0) (words c.in-Some.more.now) c.requires.list
    (c.in_err-e.ensures.only (ap Err (sym (handed-on _ Malformed c.from_residual-in_err-e.result c.from_residual-in_err-e.ensures.1 e)))))

pub gather_list-loop-more-preserved : goal.gather_list-loop-more-preserved
gather_list-loop-more-preserved t c =
    let kept = c.loop-more.invariant in
    let first = as_arguments c.loop-more.es.items.items in
    let all = words c.args.text.now in
    let end = words c.loop-more.end.now in
    let after = words c.in-Some.more.now in
    let rest = words c.in_ok-e.rest.now in
    let is = pushed-listed _ _ c.in_ok-e.e c.in_ok-push-2.ensures.ok in
    record {
      shorter = omega (arith, kept.shorter, c.in_ok-e.ensures.shorter, c.in-Some.ensures.shorter);
      front = front-more c.args.head first _ _ all end after rest is kept.front
          (subst (λ n. end ≡ lead n ++ after) (sym kept.ends.1) c.in-Some.ensures.found)
          (listed-read c.args.head (length first) c.in_ok-e.e after rest c.requires.list c.in_ok-e.ensures.found);
      ends = (
        suc kept.ends.0,
        pushed-length kept.ends.0 first _ _ is kept.ends.1,
        ends-more c.args.head (suc kept.ends.0) _ all end after rest kept.ends.2 c.in-Some.ensures.found
            (listed-read c.args.head (suc kept.ends.0) c.in_ok-e.e after rest c.requires.list c.in_ok-e.ensures.found),
      );
    }

pub gather_list-returns-then-takes-clause-found : goal.gather_list-returns-then-takes-clause-found
gather_list-returns-then-takes-clause-found t c =
    let es = c.loop-more.es.items.items in
    front-whole c.args.head c.loop-more.invariant.ends.0 (as_arguments es) (words c.args.text.now) (words c.loop-more.end.now) (words c.in-Some-after.rest.now)
    c.loop-more.invariant.ends.1 c.loop-more.invariant.front c.in-Some-after.ensures.found
    (ap (takes c.args.head) (as_many es ∙ sym (ap length c.items.ensures)) ∙ sym c.takes.ensures ∙ c.if-takes.true)

pub gather_list-returns-else-takes-clause-only : goal.gather_list-returns-else-takes-clause-only
gather_list-returns-else-takes-clause-only t c = λ e.
    let many = as_many c.loop-more.es.items.items in
    other-number c.args.head c.loop-more.invariant.ends.0 (words c.args.text.now) (words c.loop-more.end.now) c.loop-more.invariant.ends.2 c.in_default.ensures.none
    (ap (takes c.args.head) (sym c.loop-more.invariant.ends.1 ∙ many ∙ sym (ap length c.items.ensures)) ∙ sym c.takes.ensures ∙ c.if-takes.false)

pub gather_list-returns-in-None-clause-only : goal.gather_list-returns-in-None-clause-only
gather_list-returns-in-None-clause-only t c = λ e.
    no-end c.args.head c.loop-more.invariant.ends.0 (words c.args.text.now) (words c.loop-more.end.now) c.loop-more.invariant.ends.2 c.in_default.ensures.none c.in-None.ensures.none

pub gather_over-returns-in_err-first-clause-only : goal.gather_over-returns-in_err-first-clause-only
gather_over-returns-in_err-first-clause-only t c = λ e.
    no-next c.args.head 0 (words c.args.text.now) (words c.args.text.now) (words c.args.text.now) (ends-none c.args.head (words c.args.text.now)) refl
    (subst (λ (k : Kind). SpellsNoArgument k (words c.args.text.now)) c.kind_at.ensures (c.in_err-first.ensures.only (ap Err (sym (handed-on _ Malformed c.from_residual.result c.from_residual.ensures.1 e)))))

pub gather_over-loop-more-init : goal.gather_over-loop-more-init
gather_over-loop-more-init t c =
    let all = words c.args.text.now in
    let end = words c.in_ok-first.end.now in
    let is = c.in_ok-push.ensures ∙ ap (λ xs. xs ++ c.in_ok-first.first ∷ []) c.requires.none in
    let read = subst (λ (k : Kind). IsArgument k c.in_ok-first.first all end) c.kind_at.ensures c.in_ok-first.ensures.found in
    record {
      shorter = c.in_ok-first.ensures.shorter;
      front = front-more c.args.head [] _ c.in_ok-first.first all all all end is (front-none c.args.head [] all refl) refl read;
      ends = (0, ap length is, ends-more c.args.head 0 c.in_ok-first.first all all all end (ends-none c.args.head all) refl read);
    }

pub gather_over-returns-in_err-argument-clause-only : goal.gather_over-returns-in_err-argument-clause-only
gather_over-returns-in_err-argument-clause-only t c = λ e.
    let kept = c.loop-more.invariant in
    let kind = c.kind_at-in-Some.ensures ∙ ap (kind_at c.args.head) (c.len.ensures ∙ kept.ends.1) in
    no-next c.args.head (suc kept.ends.0) (words c.args.text.now) (words c.loop-more.end.now) (words c.in-Some.more.now) kept.ends.2 c.in-Some.ensures.found
    (subst (λ (k : Kind). SpellsNoArgument k (words c.in-Some.more.now)) kind
    (c.in_err-argument.ensures.only (ap Err (sym (handed-on _ Malformed c.from_residual-in_err-argument.result c.from_residual-in_err-argument.ensures.1 e)))))

pub gather_over-loop-more-preserved : goal.gather_over-loop-more-preserved
gather_over-loop-more-preserved t c =
    let kept = c.loop-more.invariant in
    let all = words c.args.text.now in
    let end = words c.loop-more.end.now in
    let after = words c.in-Some.more.now in
    let rest = words c.in_ok-argument.rest.now in
    let kind = c.kind_at-in-Some.ensures ∙ ap (kind_at c.args.head) (c.len.ensures) in
    let read = subst (λ (k : Kind). IsArgument k c.in_ok-argument.argument after rest) kind c.in_ok-argument.ensures.found in
    record {
      shorter = omega (arith, kept.shorter, c.in_ok-argument.ensures.shorter, c.in-Some.ensures.shorter);
      front = front-more c.args.head (over c.loop-more.args) _ c.in_ok-argument.argument all end after rest c.in_ok-push-2.ensures kept.front
          (subst (λ n. end ≡ lead n ++ after) (sym kept.ends.1) c.in-Some.ensures.found) read;
      ends = (
        suc kept.ends.0,
        pushed-length kept.ends.0 (over c.loop-more.args) _ c.in_ok-argument.argument c.in_ok-push-2.ensures kept.ends.1,
        ends-more c.args.head (suc kept.ends.0) c.in_ok-argument.argument all end after rest kept.ends.2 c.in-Some.ensures.found
            (subst (λ n. IsArgument (kind_at c.args.head n) c.in_ok-argument.argument after rest) kept.ends.1 read),
      );
    }

pub gather_over-push-requires : goal.gather_over-push-requires
gather_over-push-requires t c =
    let read = subst (λ (k : Kind). IsArgument k c.in_ok-first.first (words c.args.text.now) (words c.in_ok-first.end.now)) c.kind_at.ensures c.in_ok-first.ensures.found in
    first-follows c.args.head c.args.args.now c.in_ok-first.first c.requires.over c.requires.none read.kinds

pub gather_over-push-requires-in-Some : goal.gather_over-push-requires-in-Some
gather_over-push-requires-in-Some t c =
    let kind = c.kind_at-in-Some.ensures ∙ ap (kind_at c.args.head) (c.len.ensures) in
    let read = subst (λ (k : Kind). IsArgument k c.in_ok-argument.argument (words c.in-Some.more.now) (words c.in_ok-argument.rest.now)) kind c.in_ok-argument.ensures.found in
    follows c.args.head c.loop-more.args c.in_ok-argument.argument c.requires.over c.loop-more.invariant.front.kinds read.kinds

pub gather_over-returns-then-takes-clause-found : goal.gather_over-returns-then-takes-clause-found
gather_over-returns-then-takes-clause-found t c =
    front-whole c.args.head c.loop-more.invariant.ends.0 (over c.loop-more.args) (words c.args.text.now) (words c.loop-more.end.now) (words c.in-Some-after.rest.now)
    c.loop-more.invariant.ends.1 c.loop-more.invariant.front c.in-Some-after.ensures.found
    (sym (c.takes.ensures ∙ ap (takes c.args.head) (c.len-in-Some-after.ensures)) ∙ c.if-takes.true)

pub gather_over-returns-else-takes-clause-only : goal.gather_over-returns-else-takes-clause-only
gather_over-returns-else-takes-clause-only t c = λ e.
    other-number c.args.head c.loop-more.invariant.ends.0 (words c.args.text.now) (words c.loop-more.end.now) c.loop-more.invariant.ends.2 c.in_default.ensures.none
    (sym (c.takes.ensures ∙ ap (takes c.args.head) (c.len-in-Some-after.ensures ∙ c.loop-more.invariant.ends.1)) ∙ c.if-takes.false)

pub gather_over-returns-in-None-clause-only : goal.gather_over-returns-in-None-clause-only
gather_over-returns-in-None-clause-only t c = λ e.
    no-end c.args.head c.loop-more.invariant.ends.0 (words c.args.text.now) (words c.loop-more.end.now) c.loop-more.invariant.ends.2 c.in_default.ensures.none c.in-None.ensures.none

pub read_over-over_call-requires-clause-kinds : goal.read_over-over_call-requires-clause-kinds
read_over-over_call-requires-clause-kinds t c =
    of-kinds c.args.head (over c.gather_over.new.args) c.in-Ok.ensures.found.number c.in-Ok.ensures.found.kinds
