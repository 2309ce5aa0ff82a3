-- Nothing else is answered than what the records bring, a refusal, a failure or lack of memory; and a disk brings one
-- verdict at most.
use Rattle.std.proofs.Common.{◌≡◌, ℕ, List, [], Option, Some, None, refl, sym, ap, ◌∙◌, inl, inr, subst}
use Rattle.program_promise.specs.Work.{Deeds}
use Rattle.program_promise.specs.Kinds.{Starved}
use Rattle.program_promise.proofs.PromiseLemmas.{keeps_promises}
use Rattle.partition_domain.specs.declared.stop.Refusal.{Refusal}
use Rattle.partition_domain.specs.Reads.{AreNext, Brings, records_of}
use Rattle.partition_domain.proofs.VerdictLemmas.{has_one_answer}
use Rattle.ddrescuepart_words.specs.Command.{Command}
use Rattle.ddrescuepart_cli.specs.declared.ending.PartEnding.{PartEnding}
use Rattle.ddrescuepart_cli.specs.declared.ending.PartEnding.TheVariants.{Done, Refused, NoMemory}
use Rattle.ddrescuepart_cli.specs.Answers.{AnswersBy, row_of}
use Rattle.ddrescuepart_cli.specs.Work.{PartWorks}
use Rattle.ddrescuepart_cli.specs.Ddrescuepart.{part_program}
use Rattle.ddrescuepart_cli.specs.Laws.{HasOneVerdict, IsBroughtUnless, IsVerdict, PartKeepsPromises}
use Rattle.ddrescuepart_cli.proofs.PromiseLemmas.{part_made}

-- what was read for an answer that records bring
record IsRead (k : ℕ) (e : PartEnding) (d : Deeds) : Type 0 where
  next : AreNext k [] d.gain.reads
  answer : AnswersBy e k (records_of d.gain.reads)

read : (c : Command) (e : PartEnding) (d : Deeds) → PartWorks c e d → IsVerdict e → IsRead c.partition e d
read c e d (inl w) v = absurd (subst IsVerdict w.0 v)
read c e d (inr (inl w)) v = absurd (subst IsVerdict w.0 v)
read c e d (inr (inr w)) v = record { next = w.2.next; answer = w.2.answer }

-- ---- one verdict

-- the answer for what records bring
abbrev ending_by : Option Refusal → PartEnding
ending_by None = Done
ending_by (Some refusal) = Refused refusal

record IsBrought (e : PartEnding) (k : ℕ) (records : List (List ℕ)) : Type 0 where
  brought : Option Refusal
  is : e ≡ ending_by brought
  brings : Brings brought k records

is_brought : (e : PartEnding) (k : ℕ) (records : List (List ℕ)) → IsVerdict e → AnswersBy e k records
    → IsBrought e k records
is_brought Done k records v a = record { brought = None; is = refl; brings = a }
is_brought (Refused refusal) k records v a = record { brought = Some refusal; is = refl; brings = a }
is_brought e k records v a = absurd v

pub has_one_verdict : HasOneVerdict
has_one_verdict c disk e e' d d' w w' f f' v v' =
    let r = read c e d w v in
    let r' = read c e' d' w' v' in
    let b = is_brought e c.partition (records_of d.gain.reads) v r.answer in
    let b' = is_brought e' c.partition (records_of d'.gain.reads) v' r'.answer in
    b.is
    ∙ ap ending_by (has_one_answer c.partition disk b.brought b'.brought d.gain.reads d'.gain.reads r.next r'.next f f'
    b.brings b'.brings)
    ∙ sym b'.is

-- ---- nothing else is answered

-- one answer says that memory wasn't there
starved_is : (e : PartEnding) → (row_of e).kind ≡ Starved → e ≡ NoMemory
starved_is NoMemory is = refl
starved_is e is = absurd (cc)

pub part_keeps_promises : PartKeepsPromises
part_keeps_promises = keeps_promises part_program part_made

pub is_brought_unless : IsBroughtUnless
is_brought_unless t c d asks f room =
    let v = part_keeps_promises.brought t c d asks f (λ is. room (starved_is t.answer is)) in
    let p = d.asked_for c asks in
    (v, (read c t.answer p.did p.work v).answer)
