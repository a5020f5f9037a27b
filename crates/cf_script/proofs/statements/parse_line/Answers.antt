use Rattle.std.proofs.Common.{◌≡◌, true, false, sym, ◌∙◌, ap, subst}
use Rattle.cf_reference.specs.LineRefusals.{IsDeep}
use Rattle.cf_reference.specs.Words.{words, behind_word}
use Rattle.cf_script.proofs.StatementFacts.{formed-answer, memory-answer}
use Rattle.cf_script.proofs.statements.parse_line.Goals as goal

pub returns-in-Some-keyword_of-clause-formed : goal.returns-in-Some-keyword_of-clause-formed
returns-in-Some-keyword_of-clause-formed c =
    formed-answer c.args.line.now c.in-Some.word.now c.in-Some.rest.now (words c.in-Some.rest.now) c.in-Some-keyword_of.keyword c.read_statement.result
    (ap words (sym c.before_comment-text.ensures) ∙ c.in-Some.ensures.found)
    (ap behind_word (sym c.before_comment-text.ensures) ∙ c.in-Some.ensures.behind) c.in-Some-keyword_of.ensures
    (λ deep. let e : true ≡ false = sym (c.is_deep.ensures.1 (subst IsDeep (sym c.before_comment-text.ensures) deep)) ∙ c.if-is_deep.false in cc)
    c.read_statement.ensures

pub returns-in-Some-keyword_of-clause-memory : goal.returns-in-Some-keyword_of-clause-memory
returns-in-Some-keyword_of-clause-memory c = λ e.
    memory-answer c.args.line.now c.in-Some.word.now c.in-Some.rest.now (words c.in-Some.rest.now) c.in-Some-keyword_of.keyword c.read_statement.result
    (ap words (sym c.before_comment-text.ensures) ∙ c.in-Some.ensures.found) c.in-Some-keyword_of.ensures c.read_statement.ensures e
