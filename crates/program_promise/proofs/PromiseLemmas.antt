-- How a promise comes about, and what it means, whatever the program.
use Rattle.std.proofs.Common.{◌≡◌, ◌≢◌, ◌↔◌, ℕ, Bool, true, false, List, [], IsTrue, refl, sym, ap, ◌∙◌, inl, inr, subst, append-nil}
use Rattle.std.proofs.lemmas.Bool.{both_ways}
use Rattle.fault_count.proofs.CountLemmas.{not_risen}
use Rattle.option_words.specs.declared.fault.UsageFault.{UsageFault}
use Rattle.option_words.specs.Grammar.{AskFor, AskSilence, IsRefusalBy}
use Rattle.option_words.proofs.MeaningLemmas.{asked_or_refused}
use Rattle.rescue_console.specs.ConsoleState.{ChannelState, ConsoleState, TextGoesOn}
use Rattle.program_promise.specs.Work.{Works}
use Rattle.program_promise.proofs.VerdictLemmas.{one_verdict}
use Rattle.program_promise.specs.World.{WorldState, with_console, Told, told}
use Rattle.program_promise.specs.Kinds.{Failure, AtOpen, AtRead, AtCall, AtCallAfterRead, AtTake, AtPut, Kind, Asked, Brought, Wrong, Failed, Starved, IsNoFaultKind, IsVerdictKind, IsWorkKind}
use Rattle.program_promise.specs.Causes.{Changed, Changes, changes_of, none_rises}
use Rattle.program_promise.specs.Program.{Program, is_silent_of, kind_of, line_by, message_by}
use Rattle.program_promise.specs.Saying.{SaysAs, Silence, Speech}
use Rattle.program_promise.specs.Promise.{AreAccepted, DoneFor, IsDone, Promise, Says, SaysOfWords, Nothing, Message, Worked}
use Rattle.program_promise.specs.WellMade.{IsWellMade}
use Rattle.program_promise.specs.Laws.{HasOneVerdict, IsBroughtUnless, IsNoFaultUnless, KeepsPromises, NothingFailed, RefusedTouchNothing, SaysOneMessage}

-- nothing rose
pub still : (w : WorldState) → Changed none_rises w w
still w = record { opens = refl; reads = refl; calls = refl; takes = refl; puts = refl }

-- a count of standard output, by what became of all of it
changed_beside : (c : Changes) (old mid : WorldState) (now : ConsoleState) → Changed c old mid
    → now.out ≡ mid.console.out → Changed c old (with_console mid now)
changed_beside c old mid now changed beside = record {
  opens = changed.opens;
  reads = changed.reads;
  calls = changed.calls;
  takes = changed.takes;
  puts = ap (λ (s : ChannelState). s.faults) beside ∙ changed.puts;
}

-- what is said is on standard error
said_beside : (silent quiet : Bool) (message : List ℕ) (old new : ConsoleState) → SaysAs silent quiet message old new
    → new.out ≡ old.out
said_beside silent quiet message old new (Silence why same) = ap (λ (c : ConsoleState). c.out) same
said_beside silent quiet message old new (Speech loud off (inl put) schedule) = put.stays.other
said_beside silent quiet message old new (Speech loud off (inr part) schedule) = part.stays.other

module _ {C E O : Type 0} (p : Program C E O) where
  module _ (words : List (List ℕ)) (e : E) (quiet : Bool) (old mid : WorldState) (now : ConsoleState)
      (d : IsDone p words e quiet old mid) where
    says : SaysAs (is_silent_of p e) quiet (message_by p e) mid.console now
        → Says p (told words e old (with_console mid now)) mid
    says (Silence (inl silent) same) = Nothing (inl silent) (ap (λ (c : ConsoleState). with_console mid c) same)
    says (Silence (inr on) same) = Nothing (inr (d.silent on)) (ap (λ (c : ConsoleState). with_console mid c) same)
    says (Speech loud off put schedule) = Message loud (d.loud off) refl put schedule

    -- what is done, and then said, is what was promised
    pub said : SaysAs (is_silent_of p e) quiet (message_by p e) mid.console now
        → Promise p (told words e old (with_console mid now))
    said s = record {
      words = d.does.words_are;
      cause = changed_beside (changes_of (kind_of p e)) old mid now d.does.cause
          (said_beside (is_silent_of p e) quiet (message_by p e) mid.console now s);
      also = d.does.also;
      between = mid;
      asked_for = d.does.asked_for;
      nothing = d.does.nothing;
      keeps = d.does.keeps;
      says = says s;
    }

  -- ---- what is done

  -- by work that answers no fault of the words
  pub accepted : (k : Kind) (e : E) (words : List (List ℕ)) → IsWorkKind k → AreAccepted p words e → SaysOfWords p k e words
  accepted (Wrong fault) e words work a = absurd work
  accepted Starved e words work a = tt
  accepted _ e words work a = a

  -- for a command that is another's
  abbrev pub done_alike : (words : List (List ℕ)) (c other : C) (e : E) (old new : WorldState) → c ≡ other
      → DoneFor p c (line_by p words) e old new → DoneFor p other (line_by p words) e old new
  done_alike words c other e old new same d = record {
    outside = d.outside;
    did = d.did;
    agrees = subst (λ (x : C). p.Agrees x d.outside d.did old new) same d.agrees;
    work = subst (λ (x : C). Works p.faults (p.rows x d.outside) (p.Run x (line_by p words) d.outside) e d.did) same
        d.work;
    leaves = subst (λ (x : C). p.Leaves x (line_by p words) d.outside e d.did old new) same d.leaves;
  }

  module _ {Begins : WorldState → Type 0} {usage : UsageFault → E} (m : IsWellMade p Begins usage) where
    -- for what the words ask for
    unfoldable pub asked : (words : List (List ℕ)) (c : C) (e : E) (quiet : Bool) (old new : WorldState)
        → AskFor p.grammar words c → ((other : C) → AskFor p.grammar words other → other ≡ c)
        → AskSilence p.grammar words ↔ (quiet ≡ true) → Worked p c words e old new → IsDone p words e quiet old new
    asked words c e quiet old new asks alone quiet_is worked =
        let w = m.work c (line_by p words) e old new worked.done in
        record {
          does = record {
            words_are = accepted (kind_of p e) e words w.0 (record { command = c; asks = asks; fits = w.1 });
            cause = worked.cause;
            also = worked.also;
            asked_for = λ other o. done_alike words c other e old new (sym (alone other o)) worked.done;
            nothing = λ none. absurd (none c asks);
            keeps = worked.keeps;
          };
          silent = λ on. quiet_is.1 on;
          loud = λ off silence. absurd (both_ways quiet off (quiet_is.0 silence));
        }

    -- nothing, if memory ran out before the words were read
    unfoldable pub starved : (words : List (List ℕ)) (w : WorldState) → Begins w
        → IsDone p words p.faults.memory false w w
    starved words w begins = record {
      does = record {
        words_are = subst (λ (k : Kind). SaysOfWords p k p.faults.memory words) (sym m.memory) tt;
        cause = subst (λ (k : Kind). Changed (changes_of k) w w) (sym m.memory) (still w);
        also = m.memory_idle.also;
        asked_for = λ c asks. m.starves c (line_by p words) w begins;
        nothing = λ none. refl;
        keeps = m.memory_idle.keeps w begins;
      };
      silent = λ on. absurd (cc);
      loud = λ off silence. (refl, refl);
    }

    -- nothing, if they are refused
    pub refused : (words : List (List ℕ)) (fault : UsageFault) (quiet : Bool) (w : WorldState) → Begins w
        → IsRefusalBy p.grammar words fault quiet → IsDone p words (usage fault) quiet w w
    refused words fault quiet w begins r =
        let is = sym (m.wrong words fault r.refused) in
        record {
          does = record {
            words_are = subst (λ (k : Kind). SaysOfWords p k (usage fault) words) is r.refused;
            cause = subst (λ (k : Kind). Changed (changes_of k) w w) is (still w);
            also = (m.wrong_idle fault).also;
            asked_for = λ c asks. absurd (r.nothing c asks);
            nothing = λ none. refl;
            keeps = (m.wrong_idle fault).keeps w begins;
          };
          silent = λ on. r.quiet_is.1 on;
          loud = λ off silence. absurd (both_ways quiet off (r.quiet_is.0 silence));
        }

    -- ---- what a promise means

    not_failed : (at : Failure) (t : Told E) → NothingFailed t → Changed (changes_of (Failed at)) t.before t.after → ⊥
    not_failed AtOpen t f c = not_risen t.before.source.faults t.after.source.faults f.opens_count f.opens c.opens
    not_failed AtRead t f c = not_risen t.before.source.losses t.after.source.losses f.reads_count f.reads c.reads
    not_failed AtCall t f c = not_risen t.before.site.faults t.after.site.faults f.calls_count f.calls c.calls
    not_failed AtCallAfterRead t f c = not_risen t.before.site.faults t.after.site.faults f.calls_count f.calls c.calls
    not_failed AtTake t f c = not_risen t.before.feed_.faults t.after.feed_.faults f.takes_count f.takes c.takes
    not_failed AtPut t f c =
        not_risen t.before.console.out.faults t.after.console.out.faults f.puts_count f.puts c.puts

    fault_of : (k : Kind) (t : Told E) (c : C) → AskFor p.grammar t.words c → NothingFailed t
        → SaysOfWords p k t.answer t.words → Changed (changes_of k) t.before t.after → IsNoFaultKind k
    fault_of (Wrong fault) t c asks f says changed = asked_or_refused p.grammar t.words c fault asks says
    fault_of (Failed at) t c asks f says changed = not_failed at t f changed
    fault_of _ t c asks f says changed = tt

    no_fault : IsNoFaultUnless p
    no_fault t c d asks f = fault_of (kind_of p t.answer) t c asks f d.words d.cause

    verdict_of : (k : Kind) → IsNoFaultKind k → k ≢ Starved → IsVerdictKind k
    verdict_of Starved none room = room refl
    verdict_of Asked none room = tt
    verdict_of Brought none room = tt
    verdict_of _ none room = none

    brought : IsBroughtUnless p
    brought t c d asks f room = verdict_of (kind_of p t.answer) (no_fault t c d asks f) room

    untouched : RefusedTouchNothing p
    untouched t fault d refusal = d.nothing (λ c asks. asked_or_refused p.grammar t.words c fault asks refusal)

    one_message : (t : Told E) (between : WorldState) → Says p t between → IsTrue between.console.tells
        → TextGoesOn (message_by p t.answer) between.console.err.text t.after.console.err.text
    one_message t between (Nothing why same) tells = record {
      part = [];
      left = message_by p t.answer;
      split = refl;
      is = ap (λ (w : WorldState). w.console.err.text) same ∙ sym (append-nil between.console.err.text);
    }
    one_message t between (Message loud may rest (inl put) schedule) tells = record {
      part = message_by p t.answer;
      left = [];
      split = append-nil (message_by p t.answer);
      is = put.whole tells;
    }
    one_message t between (Message loud may rest (inr part) schedule) tells = part.part tells

    says_one : SaysOneMessage p
    says_one t d tells = one_message t d.between d.says tells

    verdict : HasOneVerdict p
    verdict c line o e e' d d' once last w w' v v' =
        one_verdict E p.faults _ m.faults (p.rows c o) (p.Run c line o) once last e e' d d' w w' v v'

    pub keeps_promises : KeepsPromises p
    keeps_promises = record { no_fault = no_fault; brought = brought; untouched = untouched; says = says_one; verdict = verdict }
