-- What is put on a console in parts.
use Rattle.std.proofs.Common.{◌≡◌, ℕ, ◌<◌, IsTrue, List, [], ◌++◌, length, take, drop, refl, sym, ap, ◌∙◌, subst, append_assoc, append-nil, arith, length-drop, take-append-drop}
use Rattle.fault_count.specs.Counts.{Rose}
use Rattle.rescue_console.specs.declared.console.Channel.{Channel}
use Rattle.rescue_console.specs.declared.console.Channel.TheVariants.{Out}
use Rattle.rescue_console.specs.ConsoleState.{ConsoleState, channel_of, Keeps, StaysBeside, TextGoesOn, Puts, PutsPart}

keeps_join : (a b c : ConsoleState) → Keeps a b → Keeps b c → Keeps a c
keeps_join a b c k l = record {
  tells = l.tells ∙ k.tells;
  scheduled = l.scheduled ∙ k.scheduled;
  out = omega (arith, k.out, l.out);
  err = omega (arith, k.err, l.err);
}

beside_join : (at : Channel) (a b c : ConsoleState) → StaysBeside at a b → StaysBeside at b c → StaysBeside at a c
beside_join at a b c k l = record { keeps = keeps_join a b c k.keeps l.keeps; other = l.other ∙ k.other }

pub puts_none : (at : Channel) (a : ConsoleState) → Puts at [] a a
puts_none at a = record {
  stays = record {
    keeps = record { tells = refl; scheduled = refl; out = omega arith; err = omega arith };
    other = refl;
  };
  whole = λ t. sym (append-nil (channel_of at a).text);
  kept = refl;
  fed = λ p. refl;
}

pub puts_both : (at : Channel) (s t : List ℕ) (a b c : ConsoleState) → Puts at s a b → Puts at t b c
    → Puts at (s ++ t) a c
puts_both at s t a b c p q = record {
  stays = beside_join at a b c p.stays q.stays;
  whole = λ tells. q.whole (subst IsTrue (sym p.stays.keeps.tells) tells) ∙ ap (λ x. x ++ t) (p.whole tells)
      ∙ append_assoc (channel_of at a).text s t;
  kept = q.kept ∙ p.kept;
  fed = λ scheduled. q.fed (subst IsTrue (sym p.stays.keeps.scheduled) scheduled) ∙ p.fed scheduled;
}

-- a beginning of a text that goes on is one of a longer text
goes_after : (s t before between now : List ℕ) → between ≡ before ++ s → TextGoesOn t between now
    → TextGoesOn (s ++ t) before now
goes_after s t before between now is g = record {
  part = s ++ g.part;
  left = g.left;
  split = append_assoc s g.part g.left ∙ ap (λ x. s ++ x) g.split;
  is = g.is ∙ ap (λ x. x ++ g.part) is ∙ append_assoc before s g.part;
}

goes_longer : (s t before now : List ℕ) → TextGoesOn s before now → TextGoesOn (s ++ t) before now
goes_longer s t before now g = record {
  part = g.part;
  left = g.left ++ t;
  split = sym (append_assoc g.part g.left t) ∙ ap (λ x. x ++ t) g.split;
  is = g.is;
}

pub puts_then_part : (at : Channel) (s t : List ℕ) (a b c : ConsoleState) → Puts at s a b → PutsPart at t b c
    → PutsPart at (s ++ t) a c
puts_then_part at s t a b c p q = record {
  stays = beside_join at a b c p.stays q.stays;
  part = λ tells. goes_after s t _ _ _ (p.whole tells) (q.part (subst IsTrue (sym p.stays.keeps.tells) tells));
  rose = subst (λ n. Rose n (channel_of at c).faults) p.kept q.rose;
}

pub part_of_longer : (at : Channel) (s t : List ℕ) (a b : ConsoleState) → PutsPart at s a b → PutsPart at (s ++ t) a b
part_of_longer at s t a b p = record {
  stays = p.stays;
  part = λ tells. goes_longer s t _ _ (p.part tells);
  rose = p.rose;
}

-- ---- a text that is put piece by piece

-- some of the text was put, and the rest is left of it
pub record PartlyPut (text left : List ℕ) (old new : ConsoleState) : Type 0 where
  pub part : List ℕ
  pub puts : Puts Out part old new
  pub whole : part ++ left ≡ text

pub nothing_put : (text left : List ℕ) (old : ConsoleState) → left ≡ text → PartlyPut text left old old
nothing_put text left old all = record { part = []; puts = puts_none Out old; whole = all }

split_at : (n : ℕ) (left piece rest : List ℕ) → piece ≡ take n left → rest ≡ drop n left → piece ++ rest ≡ left
split_at n left piece rest first last =
    ap (λ p. p ++ rest) first ∙ ap (λ r. take n left ++ r) last ∙ take-append-drop n left

pub piece_put : (text left piece rest : List ℕ) (old mid new : ConsoleState) → PartlyPut text left old mid
    → piece ++ rest ≡ left → Puts Out piece mid new → PartlyPut text rest old new
piece_put text left piece rest old mid new p split puts = record {
  part = p.part ++ piece;
  puts = puts_both Out p.part piece old mid new p.puts puts;
  whole = append_assoc p.part piece rest ∙ ap (λ r. p.part ++ r) split ∙ p.whole;
}

pub next_put : (n : ℕ) (text left piece rest : List ℕ) (old mid new : ConsoleState) → PartlyPut text left old mid
    → piece ≡ take n left → rest ≡ drop n left → Puts Out piece mid new → PartlyPut text rest old new
next_put n text left piece rest old mid new p first last puts =
    piece_put text left piece rest old mid new p (split_at n left piece rest first last) puts

pub next_broke : (n : ℕ) (text left piece : List ℕ) (old mid new : ConsoleState) → PartlyPut text left old mid
    → piece ≡ take n left → PutsPart Out piece mid new → PutsPart Out text old new
next_broke n text left piece old mid new p first broke =
    let rest : List ℕ = drop n left in
    let split : piece ++ rest ≡ left = split_at n left piece rest first refl in
    let whole : (p.part ++ piece) ++ rest ≡ text =
    append_assoc p.part piece rest ∙ ap (λ r. p.part ++ r) split ∙ p.whole in
    subst (λ t. PutsPart Out t old new) whole
    (part_of_longer Out (p.part ++ piece) rest old new (puts_then_part Out p.part piece old mid new p.puts broke))

-- what is left gets shorter
pub shorter : (n : ℕ) (left rest : List ℕ) → rest ≡ drop n left → 0 < n → 0 < length left → length rest < length left
shorter n left rest is some more = omega (arith, ap length is, length-drop n left)
