use Rattle.std.proofs.Common.{sym}
use Rattle.cf_script.proofs.PieceFacts.{piece-run, piece-whole}
use Rattle.cf_script.proofs.pieces.piece_length.Goals as goal

pub returns-in-Some-clause-piece : goal.returns-in-Some-clause-piece
returns-in-Some-clause-piece c =
    piece-run c.args.text.now c.in-Some.end c.requires.some c.requires.begins (sym c.in-Some.ensures.place)

pub returns-in-None-clause-piece : goal.returns-in-None-clause-piece
returns-in-None-clause-piece c = piece-whole c.args.text.now c.requires.some c.requires.begins (sym c.in-None.ensures.place)
