-- What a console got of a journal's lines, line by line.
use Rattle.std.proofs.Common.{◌≡◌, ℕ, ◌+◌, ◌-◌, ◌<◌, Bool, false, IsTrue, List, [], ◌∷◌, ◌++◌, length, take, drop, Option, Some, None, is_some, refl, sym, ap, subst, ◌∙◌, arith, append_assoc, length-append}
use Rattle.std.proofs.lemmas.List.{append-nil, drop_at, take_at, take-append-drop}
use Rattle.std.proofs.lemmas.Grind.{flat_map-append}
use Rattle.fault_count.specs.Counts.{raised}
use Rattle.fault_count.specs.Schedule.{Schedule, with_call}
use Rattle.faulty_source.specs.declared.journal.ReadEntry.{ReadEntry}
use Rattle.rescue_console.specs.declared.console.Channel.TheVariants.{Out}
use Rattle.rescue_console.specs.ConsoleState.{ConsoleState, TextGoesOn, StaysBeside, Puts}
use Rattle.plan_source.specs.declared.loss.PlanLoss.{PlanLoss}
use Rattle.plan_source.specs.Lines.{line_of_entry, lines_of_entries}
use Rattle.plan_source.specs.Printing.{BeginsAfter, BreaksLast, HasPrinted, after_each, but_last, last_of, AreCounted}

-- ---- the last entry of a journal

last_place : (before : List ReadEntry) (last : ReadEntry) → length (before ++ last ∷ []) - 1 ≡ length before
last_place before last = omega (arith, length-append before (last ∷ []))

pub but_last_is : (before : List ReadEntry) (last : ReadEntry) → but_last (before ++ last ∷ []) ≡ before
but_last_is before last =
    ap (λ (n : ℕ). take n (before ++ last ∷ [])) (last_place before last) ∙ take_at before (last ∷ []) (length before) refl

pub last_is : (before : List ReadEntry) (last : ReadEntry) → last_of (before ++ last ∷ []) ≡ last ∷ []
last_is before last =
    ap (λ (n : ℕ). drop n (before ++ last ∷ [])) (last_place before last) ∙ drop_at before (last ∷ []) (length before) refl

-- a journal that has one
pub record EndsWith (entries : List ReadEntry) : Type 0 where
  pub before : List ReadEntry
  pub last : ReadEntry
  pub are : entries ≡ before ++ last ∷ []

pub ends_with : (entries : List ReadEntry) → 0 < length entries → EndsWith entries
ends_with [] some = absurd (omega (arith, some))
ends_with (e ∷ []) some = record { before = []; last = e; are = refl }
ends_with (e ∷ f ∷ more) some =
    let rest = ends_with (f ∷ more) (omega arith) in
    record { before = e ∷ rest.before; last = rest.last; are = ap (λ (xs : List ReadEntry). e ∷ xs) rest.are }

pub one_line : (e : ReadEntry) → lines_of_entries (e ∷ []) ≡ line_of_entry e
one_line e = append-nil (line_of_entry e)

pub lines_more : (es : List ReadEntry) (e : ReadEntry) → lines_of_entries (es ++ e ∷ []) ≡ lines_of_entries es ++ lines_of_entries (e ∷ [])
lines_more es e = flat_map-append line_of_entry es (e ∷ [])

-- ---- texts that go on

pub goes_on : (piece before now : List ℕ) → BeginsAfter piece before now → TextGoesOn piece before now
goes_on piece before now b =
    let n : ℕ = length now - length before in
    record {
      part = drop (length before) now;
      left = drop n piece;
      split = ap (λ (t : List ℕ). t ++ drop n piece) (sym b.part) ∙ take-append-drop n piece;
      is = b.is;
    }

pub begins_as : (piece piece' before before' now : List ℕ) → piece ≡ piece' → before ≡ before' → BeginsAfter piece before now
    → BeginsAfter piece' before' now
begins_as piece piece' before before' now same after b =
    subst (λ (p : List ℕ). BeginsAfter p before' now) same (subst (λ (t : List ℕ). BeginsAfter piece t now) after b)

-- ---- what nothing changes, one after another

pub stays_self : (s : ConsoleState) → StaysBeside Out s s
stays_self s = record {
  keeps = record { tells = refl; scheduled = refl; out = omega arith; err = omega arith };
  other = refl;
}

pub stays_more : (a b c : ConsoleState) → StaysBeside Out a b → StaysBeside Out b c → StaysBeside Out a c
stays_more a b c f g = record {
  keeps = record {
    tells = g.keeps.tells ∙ f.keeps.tells;
    scheduled = g.keeps.scheduled ∙ f.keeps.scheduled;
    out = omega (arith, f.keeps.out, g.keeps.out);
    err = omega (arith, f.keeps.err, g.keeps.err);
  };
  other = g.other ∙ f.other;
}

still : (a b : Bool) → b ≡ a → IsTrue a → IsTrue b
still a b same on = subst IsTrue (sym same) on

-- ---- the lines of a journal

-- a journal with one more has an entry
pub not_none : (es : List ReadEntry) (e : ReadEntry) → es ++ e ∷ [] ≡ [] → ⊥
not_none es e none = absurd (omega (arith, length-append es (e ∷ []), ap length none))

-- one more call
pub each_more : (es : List ReadEntry) (e : ReadEntry) (s : Schedule) → after_each (es ++ e ∷ []) s ≡ with_call (after_each es s)
each_more [] e s = refl
each_more (f ∷ es) e s = each_more es e (with_call s)

-- and so it is after the lines of a journal,
module _ (start now now' : ConsoleState) (es : List ReadEntry) (e : ReadEntry) (lost : Option PlanLoss)
    (h : HasPrinted start now es None) (one : HasPrinted now now' (e ∷ []) lost) where
  tells_now : IsTrue start.tells → IsTrue now.tells
  tells_now = still start.tells now.tells (h.whole refl).stays.keeps.tells

  scheduled_now : IsTrue start.is_scheduled → IsTrue now.is_scheduled
  scheduled_now = still start.is_scheduled now.is_scheduled (h.whole refl).stays.keeps.scheduled

  all_more : Puts Out (lines_of_entries (e ∷ [])) now now' → Puts Out (lines_of_entries (es ++ e ∷ [])) start now'
  all_more p =
      let w : Puts Out (lines_of_entries es) start now = h.whole refl in
      record {
        stays = stays_more start now now' w.stays p.stays;
        whole = λ tells.
            p.whole (tells_now tells) ∙ ap (λ (t : List ℕ). t ++ lines_of_entries (e ∷ [])) (w.whole tells)
            ∙ append_assoc start.out.text (lines_of_entries es) (lines_of_entries (e ∷ []))
            ∙ ap (λ (t : List ℕ). start.out.text ++ t) (sym (lines_more es e));
        kept = p.kept ∙ w.kept;
        fed = λ scheduled. p.fed (scheduled_now scheduled) ∙ w.fed scheduled;
      }

  after_all : IsTrue start.tells → now.out.text ++ lines_of_entries (but_last (e ∷ []))
      ≡ start.out.text ++ lines_of_entries (but_last (es ++ e ∷ []))
  after_all tells =
      ap (λ (xs : List ReadEntry). now.out.text ++ lines_of_entries xs) (but_last_is [] e) ∙ append-nil now.out.text
      ∙ (h.whole refl).whole tells
      ∙ ap (λ (xs : List ReadEntry). start.out.text ++ lines_of_entries xs) (sym (but_last_is es e))

  last_more : BreaksLast (e ∷ []) now now' → BreaksLast (es ++ e ∷ []) start now'
  last_more b =
      let w : Puts Out (lines_of_entries es) start now = h.whole refl in
      record {
        some = omega (arith, length-append es (e ∷ []));
        stays = stays_more start now now' w.stays b.stays;
        text = λ tells.
            begins_as (lines_of_entries (last_of (e ∷ []))) (lines_of_entries (last_of (es ++ e ∷ [])))
            (now.out.text ++ lines_of_entries (but_last (e ∷ []))) (start.out.text ++ lines_of_entries (but_last (es ++ e ∷ [])))
            now'.out.text (ap lines_of_entries (last_is [] e ∙ sym (last_is es e))) (after_all tells)
            (b.text (tells_now tells));
        unput = λ scheduled tells. b.unput (scheduled_now scheduled) (tells_now tells) ∙ after_all tells;
        rose = b.rose ∙ ap raised w.kept;
      }

  pub printed_more : HasPrinted start now' (es ++ e ∷ []) lost
  printed_more = record {
    whole = λ whole. all_more (one.whole whole);
    broken = λ broken. last_more (one.broken broken);
    none = λ none. absurd (not_none es e none);
    calls = λ scheduled.
        one.calls (scheduled_now scheduled) ∙ ap with_call (h.calls scheduled) ∙ sym (each_more es e start.schedule);
  }

-- ---- the same by what is told of a journal

none_lost : (lost : Option PlanLoss) → is_some lost ≡ false → lost ≡ None
none_lost None none = refl
none_lost (Some l) none = absurd (cc)

-- no read was lost, and none is by a put
pub counted_by : (lost lost' : Option PlanLoss) (losses : ℕ) → is_some lost ≡ false → AreCounted lost losses
    → AreCounted lost' 0 → AreCounted lost' losses
counted_by lost lost' losses none counted put = record {
  none = λ is. counted.none (none_lost lost none);
  some = λ is. absurd (omega (arith, put.some is));
}

module _ (start now : ConsoleState) (es es' : List ReadEntry) (lost : Option PlanLoss) (none : is_some lost ≡ false)
    (same : es' ≡ es) (h : HasPrinted start now es lost) where
  unlost : HasPrinted start now es' None
  unlost = subst (λ (xs : List ReadEntry). HasPrinted start now xs None) (sym same)
      (subst (λ (l : Option PlanLoss). HasPrinted start now es l) (none_lost lost none) h)

  pub more_by : (now' : ConsoleState) (e : ReadEntry) (es'' : List ReadEntry) (lost' : Option PlanLoss)
      → es'' ≡ es' ++ e ∷ [] → HasPrinted now now' (e ∷ []) lost' → HasPrinted start now' es'' lost'
  more_by now' e es'' lost' more one =
      subst (λ (xs : List ReadEntry). HasPrinted start now' xs lost') (sym more)
      (printed_more start now now' es' e lost' unlost one)
