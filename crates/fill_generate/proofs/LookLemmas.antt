-- A piece that is looked up.
use Rattle.std.proofs.Common.{◌≡◌, ℕ, ◌+◌, ◌-◌, ◌*◌, ◌/◌, ◌<◌, ◌≤◌, min, false, IsTrue, List, [], ◌∷◌, ◌++◌, length, take, drop, Option, Some, Result, Ok, Err, OnOk, sym, ap, subst, ◌∙◌, arith}
use Rattle.std.specs.Result.{is_err}
use Rattle.std.proofs.lemmas.Bool.{true≢false}
use Rattle.std.proofs.lemmas.List.{take_min, length-drop, length-take-le, take-append-le}
use Rattle.run_options.specs.Settings.{Suits}
use Rattle.crash_site.specs.Files.{File, bytes_of}
use Rattle.crash_site.specs.FileAnswers.{IsImageRead}
use Rattle.crash_site.specs.Calls.{Call, Done, image_read}
use Rattle.crash_site.specs.SiteState.{SiteState, image_in}
use Rattle.crash_site.specs.SiteChanges.{Makes}
use Rattle.rescue_domain.specs.Parts.{covers}
use Rattle.rescue_rules.specs.Setting.{place}
use Rattle.sweep_rules.specs.Sweep.{Sweep, is_generated}
use Rattle.fill_generate.specs.declared.sweeping.Piece.{Piece}
use Rattle.fill_generate.specs.Marking.{finished_at}
use Rattle.fill_generate.specs.SweepState.{SweepState, IsSweeping, setting_of, standing}
use Rattle.fill_generate.specs.Steps.{LooksUp, got_at}
use Rattle.fill_generate.proofs.MarkLemmas.{quotients_ascend}
use Rattle.fill_generate.proofs.PieceLemmas.{makes_one, size_back}

-- what holds where a call returned
pub returned : {T E : Type 0} (result : Result T E) (P : Type 0) → OnOk result P → is_err result ≡ false → P
returned (Ok v) P holds is = holds
returned (Err e) P holds is = absurd (true≢false is)

-- memory for a piece is enough for its front
pub spare_enough : (pos n len sector room spare : ℕ) → 0 < sector → n ≤ len
    → room ≡ 2 * ((pos + len) / sector - pos / sector) + 4 → room ≤ spare
    → 2 * ((pos + n) / sector - pos / sector) + 4 ≤ spare
spare_enough pos n len sector room spare some few is enough =
    let later : (pos + n) / sector ≤ (pos + len) / sector = quotients_ascend (pos + n) (pos + len) sector some (omega (arith, few)) in
    omega (arith, later, is, enough)

-- a sweep over a map of the same length
pub sweeps_on : (r : SweepState) (m : Sweep) → length m.map ≡ length r.sweep.map → IsSweeping r → IsSweeping (standing r m)
sweeps_on r m same h = record {
  sound = h.sound;
  suits = subst (λ (n : ℕ). Suits r.settings (covers r.domain) n) (sym same) h.suits;
  places = h.places;
}

-- A read that gives all that there is gives the front of what stands there.
pub read_is : (image : Option File) (place n len : ℕ) (buf : List ℕ) → length buf ≡ len → IsImageRead image place buf n
    → take n buf ≡ take len (drop place (bytes_of image))
read_is image place n len buf room read =
    let back : List ℕ = drop place (bytes_of image) in
    let least : n ≡ min len (length back) =
    read.count ∙ ap (λ (k : ℕ). min k (length (bytes_of image) - place)) room ∙ ap (min len) (sym (length-drop place (bytes_of image))) in
    read.bytes ∙ ap (λ (k : ℕ). take k back) (size_back place n ∙ least) ∙ take_min len back

-- what was read, at the front of a buffer
pub front_is : (n : ℕ) (buf rest : List ℕ) → n ≤ length buf → length (take n (buf ++ rest)) ≡ n
front_is n buf rest few = ap length (take-append-le n buf rest few) ∙ length-take-le n buf few

pub looks_up : (r r1 : SweepState) (piece : Piece) (buf rest : List ℕ) (at asked n : ℕ) (a c : SiteState)
    → at ≡ place (setting_of r) piece.pos → asked ≡ piece.len → n ≤ piece.len → length buf ≡ piece.len
    → r1 ≡ standing r (record r.sweep {
      map = finished_at (is_generated (setting_of r) (got_at piece (take n (buf ++ rest)))) r.sweep.map;
    }) → (IsTrue a.tells → c.calls ≡ a.calls ++ Done (image_read at asked (Some n)) ∷ []) → c.faults ≡ a.faults
    → (IsTrue a.tells → IsImageRead (image_in a) at buf n) → LooksUp piece r r1 a c
looks_up r r1 piece buf rest at asked n a c there all few size marks done kept read =
    let fits : n ≤ length buf = omega (arith, few, size) in
    let count : length (take n (buf ++ rest)) ≡ n = front_is n buf rest fits in
    let call : image_read at asked (Some n) ≡ image_read (place (setting_of r) piece.pos) piece.len (Some (length (take n (buf ++ rest)))) =
    ap (λ (p : ℕ). image_read p asked (Some n)) there
    ∙ ap (λ (k : ℕ). image_read (place (setting_of r) piece.pos) k (Some n)) all
    ∙ ap (λ (k : ℕ). image_read (place (setting_of r) piece.pos) piece.len (Some k)) (sym count) in
    record {
      got = take n (buf ++ rest);
      few = omega (arith, count, few);
      marks = marks;
      calls = subst (λ (d : Call). Makes (d ∷ []) a c) call (makes_one (image_read at asked (Some n)) a c done kept);
      told = λ tells.
          take-append-le n buf rest fits ∙ read_is (image_in a) at n piece.len buf size (read tells)
          ∙ ap (λ (p : ℕ). take piece.len (drop p (bytes_of (image_in a)))) there;
    }
