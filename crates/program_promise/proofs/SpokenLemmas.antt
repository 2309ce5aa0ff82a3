-- How the promise of a program comes about whose work says lines.
use Rattle.std.proofs.Common.{◌≡◌, ◌↔◌, ℕ, Bool, true, false, not, List, [], ◌∷◌, ◌++◌, refl, sym, inl, inr, subst}
use Rattle.std.proofs.lemmas.Bool.{both_ways}
use Rattle.option_words.specs.declared.fault.UsageFault.{UsageFault}
use Rattle.option_words.specs.Grammar.{AskFor, AskSilence, IsRefusalBy}
use Rattle.rescue_console.specs.ConsoleState.{ConsoleState}
use Rattle.rescue_console.specs.Speaking.{SpokenPiece, SpeaksOn, out_pieces}
use Rattle.rescue_console.proofs.SpeakingLemmas.{heard_speak, speeches_join}
use Rattle.program_promise.specs.World.{WorldState, with_console, told}
use Rattle.program_promise.specs.Program.{Program, is_silent_of, line_by, message_by}
use Rattle.program_promise.specs.Saying.{SaysAs, Silence, Speech}
use Rattle.program_promise.specs.Promise.{IsDone, Worked}
use Rattle.program_promise.specs.Spoken.{unless_silent, pieces_by, Utters, Nothing, Spoken, SaysFirst, SpokenPromise, IsSaid}
use Rattle.program_promise.specs.WellMade.{IsWellMade}
use Rattle.program_promise.proofs.PromiseLemmas.{asked, refused, starved}

-- a message is said of one who is heard
record IsMessage (silent heard : Bool) (message : List ℕ) (old new : ConsoleState) : Type 0 where
  pub heard' : Bool
  pub says : SpeaksOn (unless_silent silent message) heard heard' old new

message_said : (silent heard : Bool) (message : List ℕ) (old new : ConsoleState)
    → SaysAs silent (not heard) message old new → IsMessage silent heard message old new
message_said true true message old new (Silence why same) = record { heard' = true; says = (refl, same) }
message_said true false message old new (Silence why same) = record { heard' = false; says = (refl, same) }
message_said false true message old new (Silence (inl silent) same) = absurd (cc)
message_said false true message old new (Silence (inr off) same) = absurd (cc)
message_said false false message old new (Silence why same) = record { heard' = false; says = (refl, same) }
message_said true heard message old new (Speech loud off put schedule) = absurd (cc)
message_said false false message old new (Speech loud off put schedule) = absurd (cc)
message_said false true message old new (Speech loud off (inl put) schedule) =
    record { heard' = true; says = inl (new, record { puts = put; one = schedule }, (refl, refl)) }
message_said false true message old new (Speech loud off (inr part) schedule) =
    record { heard' = false; says = inr (refl, record { puts = part; one = schedule }) }

-- who isn't heard says nothing
unheard : (ps : List SpokenPiece) (heard : Bool) (old new : ConsoleState) → SpeaksOn ps false heard old new → new ≡ old
unheard [] heard old new says = says.1
unheard (p ∷ ps) heard old new says = says.1

pub none_says : (heard : Bool) (x : ConsoleState) → SpeaksOn [] heard heard x x
none_says true x = (refl, refl)
none_says false x = (refl, refl)

module _ {C E O : Type 0} (p : Program C E O) where
  -- lines, and after them the message
  module _ (words : List (List ℕ)) (e : E) (old mid : WorldState) (now : ConsoleState) where
    utters : (lines : List (List ℕ)) (quiet heard heard' : Bool)
        → IsDone p words e quiet old (with_console mid old.console)
        → SaysFirst p lines words quiet heard old.console mid.console
        → SpeaksOn (pieces_by p e) heard heard' mid.console now → Utters p lines words e old (with_console mid now)
    utters lines true heard heard' d first then =
        Nothing (d.silent refl)
        (unheard (out_pieces lines ++ pieces_by p e) heard' old.console now
        (speeches_join (out_pieces lines) (pieces_by p e) false heard heard' old.console mid.console now first.speaks
        then))
    utters lines false heard heard' d first then =
        Spoken (λ silence. ((d.loud refl silence).0, first.loud refl silence, (d.loud refl silence).1))
        (heard_speak (out_pieces lines ++ pieces_by p e) heard' old.console now
        (speeches_join (out_pieces lines) (pieces_by p e) true heard heard' old.console mid.console now first.speaks
        then))

  module _ (lines : O → List (List ℕ)) where
    -- What is done and said, and then the message, is what was promised.
    pub spoken : (words : List (List ℕ)) (e : E) (heard : Bool) (old mid : WorldState)
        (now : ConsoleState) → IsSaid p lines words e heard old mid
        → SaysAs (is_silent_of p e) (not heard) (message_by p e) mid.console now
        → SpokenPromise p lines (told words e old (with_console mid now))
    spoken words e heard old mid now d says =
        let m = message_said (is_silent_of p e) heard (message_by p e) mid.console now says in
        record {
          does = d.done.does;
          says = λ c asks. utters words e old mid now _ d.quiet heard m.heard' d.done (d.says c asks) m.says;
          says_none = λ none. utters words e old mid now [] d.quiet heard m.heard' d.done (d.says_none none) m.says;
        }

    -- ---- what is said before the message

    module _ {Begins : WorldState → Type 0} {usage : UsageFault → E} (m : IsWellMade p Begins usage) where
      -- by work for what the words ask for
      pub asked_says : (words : List (List ℕ)) (c : C) (e : E) (quiet heard : Bool) (old new : WorldState)
          → AskFor p.grammar words c → ((other : C) → AskFor p.grammar words other → other ≡ c)
          → AskSilence p.grammar words ↔ (quiet ≡ true)
          → (worked : Worked p c words e old (with_console new old.console))
          → SpeaksOn (out_pieces (lines worked.done.outside)) (not quiet) heard old.console new.console
          → IsSaid p lines words e heard old new
      unfolding asked
      asked_says words c e quiet heard old new asks alone quiet_is worked speaks = record {
        quiet = quiet;
        done = asked p m words c e quiet old (with_console new old.console) asks alone quiet_is worked;
        says = λ other o. record {
          speaks = speaks;
          loud = λ off silence. absurd (both_ways quiet off (quiet_is.0 silence));
        };
        says_none = λ none. absurd (none c asks);
      }

      -- nothing, if memory ran out before the words were read
      pub starved_says : (words : List (List ℕ)) (w : WorldState) → (begins : Begins w)
          → ((c : C) → lines (m.starves c (line_by p words) w begins).outside ≡ [])
          → IsSaid p lines words p.faults.memory true w w
      unfolding starved
      starved_says words w begins idle = record {
        quiet = false;
        done = starved p m words w begins;
        says = λ c asks. record {
          speaks = subst (λ (l : List (List ℕ)). SpeaksOn (out_pieces l) true true w.console w.console) (sym (idle c))
              (refl, refl);
          loud = λ off silence. idle c;
        };
        says_none = λ none. record { speaks = (refl, refl); loud = λ off silence. refl };
      }

      -- nor if they are refused
      pub refused_says : (words : List (List ℕ)) (fault : UsageFault) (quiet : Bool) (w : WorldState) → Begins w
          → IsRefusalBy p.grammar words fault quiet → IsSaid p lines words (usage fault) (not quiet) w w
      refused_says words fault quiet w begins r = record {
        quiet = quiet;
        done = refused p m words fault quiet w begins r;
        says = λ c asks. absurd (r.nothing c asks);
        says_none = λ none. record { speaks = none_says (not quiet) w.console; loud = λ off silence. refl };
      }
