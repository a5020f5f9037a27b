use Rattle.std.proofs.Common.{sym, ◌∙◌}
use Rattle.cf_script.proofs.WordFacts.{word-sign, word-run, word-whole, behind-sign, behind-run, behind-whole, behind-first}
use Rattle.cf_script.proofs.words.word_length.Goals as goal

pub returns-then-is_sign-clause-word : goal.returns-then-is_sign-clause-word
returns-then-is_sign-clause-word c = word-sign c.args.text.now c.requires.some c.requires.begins (sym c.is_sign.ensures ∙ c.if-is_sign.true)

pub returns-in-Some-clause-word : goal.returns-in-Some-clause-word
returns-in-Some-clause-word c =
    word-run c.args.text.now c.in-Some.end c.requires.some c.requires.begins (sym c.is_sign.ensures ∙ c.if-is_sign.false)
    (behind-first c.args.text.now _ c.in-Some.ensures.place)

pub returns-in-None-clause-word : goal.returns-in-None-clause-word
returns-in-None-clause-word c =
    word-whole c.args.text.now c.requires.some c.requires.begins (sym c.is_sign.ensures ∙ c.if-is_sign.false) (behind-first c.args.text.now _ c.in-None.ensures.place)

pub returns-then-is_sign-clause-behind : goal.returns-then-is_sign-clause-behind
returns-then-is_sign-clause-behind c = behind-sign c.args.text.now c.requires.some c.requires.begins (sym c.is_sign.ensures ∙ c.if-is_sign.true)

pub returns-in-Some-clause-behind : goal.returns-in-Some-clause-behind
returns-in-Some-clause-behind c =
    behind-run c.args.text.now c.in-Some.end c.requires.some c.requires.begins (sym c.is_sign.ensures ∙ c.if-is_sign.false) (behind-first c.args.text.now _ c.in-Some.ensures.place)

pub returns-in-None-clause-behind : goal.returns-in-None-clause-behind
returns-in-None-clause-behind c =
    behind-whole c.args.text.now c.requires.some c.requires.begins (sym c.is_sign.ensures ∙ c.if-is_sign.false) (behind-first c.args.text.now _ c.in-None.ensures.place)
