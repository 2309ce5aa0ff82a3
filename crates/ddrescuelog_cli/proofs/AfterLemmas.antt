-- What became of the files, the feed and standard output, by the answer.
use Rattle.std.proofs.Common.{◌≡◌, ◌≢◌, ℕ, Bool, true, false, List, [], ◌∷◌, refl, sym, ap, ◌∙◌, inl, inr, subst, arith}
use Rattle.std.proofs.lemmas.Bool.{both_ways}
use Rattle.crash_site.specs.SiteState.{SiteState}
use Rattle.crash_site.specs.SiteChanges.{Stays}
use Rattle.rescue_console.specs.FeedState.{FeedState, Keeps as FeedKeeps}
use Rattle.rescue_console.specs.ConsoleState.{ConsoleState, PutsPart}
use Rattle.rescue_console.specs.declared.console.Channel.TheVariants.{Out}
use Rattle.ddrescuelog_words.specs.declared.mode.LogMode.{LogMode}
use Rattle.ddrescuelog_words.specs.declared.mode.LogMode.TheVariants.{Create, Test, Compare}
use Rattle.ddrescuelog_words.specs.Modes.{creates, removes_map}
use Rattle.ddrescuelog_words.specs.Command.{Command}
use Rattle.option_words.specs.declared.fault.UsageFault.{UsageFault}
use Rattle.option_words.specs.declared.fault.UsageFault.TheVariants.{PlaceTooLarge}
use Rattle.program_promise.specs.Work.{Deeds, Take, Look}
use Rattle.program_promise.specs.Kinds.{AtPut, Kind, Asked, Failed}
use Rattle.program_promise.specs.Causes.{Changed, changes_of}
use Rattle.program_promise.specs.Printing.{PutsByKind}
use Rattle.program_promise.specs.Rows.{usage_kind}
use Rattle.ddrescuelog_cli.specs.declared.ending.LogEnding.{LogEnding}
use Rattle.ddrescuelog_cli.specs.declared.ending.LogEnding.TheVariants.{Done, NotDone, Differ, Usage, FeedFault, ConsoleFault}
use Rattle.ddrescuelog_cli.specs.Modes.{prints, puts_pieces, EndsPrinted, EndsAs}
use Rattle.ddrescuelog_cli.specs.Maps.{Maps}
use Rattle.ddrescuelog_cli.specs.Answers.{FitsCommand, TakesFeed, drafting_left, row_of}
use Rattle.ddrescuelog_cli.specs.After.{SiteLeft, feed_count, site_count}
use Rattle.ddrescuelog_cli.specs.Printing.{PutsAs, PutsInPieces, PutsWhole}
use Rattle.ddrescuelog_cli.specs.Ddrescuelog.{handed}
use Rattle.ddrescuelog_cli.specs.Steps.{ReadCause}
use Rattle.ddrescuelog_cli.specs.Work.{PlacesRefused, WorksOver}
use Rattle.ddrescuelog_cli.specs.Worked.{FeedAfter}
use Rattle.ddrescuelog_cli.proofs.FoundLemmas.{answers_have}
use Rattle.ddrescuelog_cli.proofs.PieceLemmas.{pieces_print}

-- ---- nothing happened to an object

pub feed_keeps : (f : FeedState) → FeedKeeps f f
feed_keeps f = record { tells = refl; scheduled = refl; later = omega arith }

-- ---- files

-- an answer of a mode that changes no file
pub record IsPlain (e : LogEnding) : Type 0 where
  counts : (n : ℕ) → site_count e n ≡ n
  also : (row_of e).also
  draft : drafting_left e ≡ false

done_plain : IsPlain Done
done_plain = record { counts = λ n. refl; also = tt; draft = refl }

not_done_plain : IsPlain NotDone
not_done_plain = record { counts = λ n. refl; also = tt; draft = refl }

differ_plain : IsPlain Differ
differ_plain = record { counts = λ n. refl; also = tt; draft = refl }

plain_as : (e v : LogEnding) → e ≡ v → IsPlain v → IsPlain e
plain_as e v is plain = subst IsPlain (sym is) plain

printed_plain : (e : LogEnding) (d : Deeds) → EndsPrinted e d → IsPlain e
printed_plain e d (inl a) = plain_as e ConsoleFault a.0 (record { counts = λ n. refl; also = tt; draft = refl })
printed_plain e d (inr a) = plain_as e Done a.0 done_plain

ends_plain : (mode : LogMode) (c : Command) (line list : List ℕ) (m : Maps) → creates mode ≡ false
    → removes_map mode ≡ false → (e : LogEnding) (d : Deeds) → EndsAs mode c line list m e d → IsPlain e
ends_plain (Create listed rest) c line list m reads keeps e d w = absurd (both_ways true reads refl)
ends_plain (Test true) c line list m reads keeps e d w = absurd (both_ways true keeps refl)
ends_plain (Test false) c line list m reads keeps e d (inl a, idle) = plain_as e Done a.0 done_plain
ends_plain (Test false) c line list m reads keeps e d (inr a, idle) = plain_as e NotDone a.0 not_done_plain
ends_plain (Compare false) c line list m reads keeps e d (inl a, idle) = plain_as e Done a.0 done_plain
ends_plain (Compare false) c line list m reads keeps e d (inr a, idle) = plain_as e Differ a.0 differ_plain
ends_plain (Compare true) c line list m reads keeps e d (inl a, idle) = plain_as e Done a.0 done_plain
ends_plain (Compare true) c line list m reads keeps e d (inr a, idle) = plain_as e Differ a.0 differ_plain
ends_plain _ c line list m reads keeps e d w = printed_plain e d w

pub over_plain : (c : Command) (line list : List ℕ) (m : Maps) (e : LogEnding) (d : Deeds) → creates c.mode ≡ false
    → removes_map c.mode ≡ false → WorksOver c line list m e d → IsPlain e
over_plain c line list m e d reads keeps w =
    answers_have IsPlain (Take ∷ Look (PlacesRefused c m) ∷ []) (EndsAs c.mode c line list m) (
      record { counts = λ n. refl; also = tt; draft = refl },
      (
        (λ v r. plain_as v (Usage PlaceTooLarge) r.is (record { counts = λ n. refl; also = tt; draft = refl })),
        tt,
      ),
    )
    (ends_plain c.mode c line list m reads keeps) e d w

-- after reads of maps that returned
pub plain_after : (e : LogEnding) (old new : SiteState) → IsPlain e → Stays old new → new.faults ≡ old.faults
    → SiteLeft e old new
plain_after e old new plain stays kept = record {
  keeps = stays.keeps;
  image = stays.image;
  counts = kept ∙ sym (plain.counts old.faults);
  also = plain.also;
  draft = λ none. stays.draft ∙ none ∙ sym plain.draft;
}

-- after reads that stopped the work
record ReadEnds (faults faults' : ℕ) (e : LogEnding) : Type 0 where
  counts : faults' ≡ site_count e faults
  also : (row_of e).also
  draft : drafting_left e ≡ false
  puts : (prints_text : Bool) (text : List ℕ) (s : ConsoleState) → PutsAs prints_text e text s s
  pieces : (text : List ℕ) (s : ConsoleState) → PutsInPieces e text s s

read_ends : (e : LogEnding) (faults faults' : ℕ) → ReadCause e faults faults' → ReadEnds faults faults' e
read_ends e n n' (inl (is, kept)) =
    subst (ReadEnds n n') (sym is) (record { counts = kept; also = tt; draft = refl; puts = λ b text s. refl; pieces = λ text s. refl })
read_ends e n n' (inr (inl (which, is, kept))) =
    subst (ReadEnds n n') (sym is) (record { counts = kept; also = tt; draft = refl; puts = λ b text s. refl; pieces = λ text s. refl })
read_ends e n n' (inr (inr (inl (which, error, is, other, kept)))) =
    subst (ReadEnds n n') (sym is) (record { counts = kept; also = other; draft = refl; puts = λ b text s. refl; pieces = λ text s. refl })
read_ends e n n' (inr (inr (inr (is, rose)))) =
    subst (ReadEnds n n') (sym is) (record { counts = rose; also = tt; draft = refl; puts = λ b text s. refl; pieces = λ text s. refl })

-- nothing is put after them
pub read_puts : (e : LogEnding) (faults faults' : ℕ) (prints_text : Bool) (text : List ℕ) (s : ConsoleState)
    → ReadCause e faults faults' → PutsAs prints_text e text s s
read_puts e n n' b text s cause = (read_ends e n n' cause).puts b text s

pub read_pieces : (e : LogEnding) (faults faults' : ℕ) (text : List ℕ) (s : ConsoleState) → ReadCause e faults faults'
    → PutsInPieces e text s s
read_pieces e n n' text s cause = (read_ends e n n' cause).pieces text s

-- ---- the feed

-- it isn't taken from where no map is created
usage_takes : (fault : UsageFault) (n : ℕ) → n ≡ feed_count (Usage fault) n
usage_takes PlaceTooLarge n = refl
usage_takes _ n = refl

feed_counts : (e : LogEnding) (c : Command) → creates c.mode ≡ false → FitsCommand e c → (n : ℕ) → n ≡ feed_count e n
feed_counts FeedFault c reads fits n = absurd (both_ways (creates c.mode) reads fits)
feed_counts (Usage fault) c reads fits n = usage_takes fault n
feed_counts _ c reads fits n = refl

pub feed_untaken : (e : LogEnding) (c : Command) (f : FeedState) → creates c.mode ≡ false → FitsCommand e c
    → FeedAfter (creates c.mode) e f f
feed_untaken e c f reads fits = record {
  keeps = feed_keeps f;
  counts = feed_counts e c reads fits f.faults;
  takes = subst (λ (b : Bool). TakesFeed b e f f) (sym reads) refl;
}

-- ---- standard output

-- a mode that removes its mapfile prints nothing
pub removing_prints_nothing : (mode : LogMode) → removes_map mode ≡ true → prints mode ≡ false
removing_prints_nothing (Test removes) on = refl
removing_prints_nothing _ on = absurd (cc)

nothing_put : (e : LogEnding) (c : Command) (text : List ℕ) (s : ConsoleState) → prints c.mode ≡ false
    → FitsCommand e c → PutsAs false e text s s
nothing_put ConsoleFault c text s off fits = absurd (both_ways (prints c.mode) off fits)
nothing_put (Usage PlaceTooLarge) c text s off fits = refl
nothing_put (Usage _) c text s off fits = absurd fits
nothing_put _ c text s off fits = refl

pub puts_nothing : (e : LogEnding) (c : Command) (text : List ℕ) (s : ConsoleState) → prints c.mode ≡ false
    → FitsCommand e c → PutsAs (prints c.mode) e text s s
puts_nothing e c text s off fits =
    subst (λ (b : Bool). PutsAs b e text s s) (sym off) (nothing_put e c text s off fits)

-- nor does it put pieces
pub no_pieces_put : (e : LogEnding) (c : Command) (text : List ℕ) (s : ConsoleState) → prints c.mode ≡ false
    → puts_pieces c.mode ≡ true → PutsInPieces e text s s
no_pieces_put e c text s off on = absurd (both_ways (prints c.mode) off (pieces_print c.mode on))

-- ---- the cause

-- the count of puts that failed, by what was put
whole_kept : (b : Bool) (text : List ℕ) (old new : ConsoleState) → PutsWhole b text old new
    → new.out.faults ≡ old.out.faults
whole_kept true text old new put = put.kept
whole_kept false text old new same = ap (λ (c : ConsoleState). c.out.faults) same

puts_count : (k : Kind) (b : Bool) (text : List ℕ) (old new : ConsoleState)
    → PutsByKind k (PutsWhole b text old new) ((text ≢ []) × PutsPart Out text old new) (new ≡ old) old new
    → new.out.faults ≡ (changes_of k).puts old.out.faults
puts_count Asked b text old new put = whole_kept b text old new put
puts_count (Failed AtPut) b text old new put = put.1.rose
puts_count _ b text old new same = ap (λ (c : ConsoleState). c.out.faults) same

-- no answer is for an input, which there isn't
record NoInput (k : Kind) : Type 0 where
  opens : 0 ≡ (changes_of k).opens 0
  reads : 0 ≡ (changes_of k).reads 0

usage_no_input : (fault : UsageFault) → NoInput (usage_kind fault)
usage_no_input PlaceTooLarge = record { opens = refl; reads = refl }
usage_no_input _ = record { opens = refl; reads = refl }

no_input : (e : LogEnding) → NoInput (row_of e).kind
no_input (Usage fault) = usage_no_input fault
no_input _ = record { opens = refl; reads = refl }

pub causes_by : (e : LogEnding) (b : Bool) (text : List ℕ) (s s' : SiteState) (f f' : FeedState)
    (p p' : ConsoleState) → SiteLeft e s s' → f'.faults ≡ feed_count e f.faults → PutsAs b e text p p'
    → Changed (changes_of (row_of e).kind) (handed s f p) (handed s' f' p')
causes_by e b text s s' f f' p p' site taken put = record {
  opens = (no_input e).opens;
  reads = (no_input e).reads;
  calls = site.counts;
  takes = taken;
  puts = puts_count (row_of e).kind b text p p' put;
}
