use Rattle.std.proofs.Common.{subst, sym}
use Rattle.mapfile_text.specs.Pieces.{AreTakenOff}
use Rattle.mapfile_text.proofs.PieceLemmas.{taken_are_pieces, pieces_are_taken, in_pieces}
use Rattle.mapfile_text.proofs.laws.pieces_are_the_text.Goals as goal

pub returns : goal.returns
returns c = record {
  taken = λ ps text. (taken_are_pieces ps text, λ e. subst (λ qs. AreTakenOff qs text) (sym e) (pieces_are_taken text));
  whole = in_pieces;
}
