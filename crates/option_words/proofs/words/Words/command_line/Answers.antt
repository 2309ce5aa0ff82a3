-- Each word adds a space and itself.
use Rattle.std.proofs.Common.{◌≡◌, ℕ, suc, ◌+◌, ◌-◌, ◌<◌, List, [], ◌∷◌, ◌++◌, length, take, get_or, sym, ◌∙◌, ap, append_assoc, arith}
use lib.Utf8.{encode}
use Rattle.std.proofs.Math.Seq.{take-suc}
use Rattle.std.proofs.lemmas.Grind.{flat_map-append}
use Rattle.std.proofs.lemmas.List.{append-nil}
use Rattle.std.specs.List.{flat_map}
use Rattle.std.specs.String.{string_bytes}
use Rattle.option_words.specs.Words.{command_line, word}
use Rattle.option_words.proofs.words.Words.command_line.Goals as goal

line_more : (program : List ℕ) (words : List (List ℕ)) (i : ℕ) (line spaced new w : List ℕ) → i < length words
    → w ≡ word words (i + 1) → line ≡ command_line program (take i words) → spaced ≡ line ++ 32 ∷ [] → new ≡ spaced ++ w
    → new ≡ command_line program (take (i + 1) words)
line_more program words i line spaced new w within is so_far space added =
    let spell : List ℕ → List ℕ = λ v. 32 ∷ v in
    let next : suc i ≡ i + 1 = omega arith in
    let back : i + 1 - 1 ≡ i = omega arith in
    let here : get_or words i [] ≡ w = sym (is ∙ ap (λ k. get_or words k []) back) in
    let front : take i words ++ w ∷ [] ≡ take (i + 1) words =
    ap (λ v. take i words ++ v ∷ []) (sym here) ∙ sym (take-suc words i [] within) ∙ ap (λ k. take k words) next in
    let spelled : flat_map spell (take i words) ++ 32 ∷ w ≡ flat_map spell (take (i + 1) words) =
    ap (λ v. flat_map spell (take i words) ++ 32 ∷ v) (sym (append-nil w))
    ∙ sym (flat_map-append spell (take i words) (w ∷ [])) ∙ ap (flat_map spell) front in
    added ∙ ap (λ v. v ++ w) space ∙ append_assoc line (32 ∷ []) w ∙ ap (λ v. v ++ 32 ∷ w) so_far
    ∙ append_assoc program (flat_map spell (take i words)) (32 ∷ w) ∙ ap (λ v. program ++ v) spelled

pub loop-i-preserved : goal.loop-i-preserved
unfolding encode
loop-i-preserved c =
    line_more c.args.program.now c.args.self.now c.loop-i.i (string_bytes c.loop-i.line) (string_bytes c.push.new.self)
    (string_bytes c.push_str.new.self) c.get.result.now (omega arith) c.get.ensures c.loop-i.invariant
    c.in_ok-push.ensures.bytes c.in_ok-push_str.ensures.bytes
