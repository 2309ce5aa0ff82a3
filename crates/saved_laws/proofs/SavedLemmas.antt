-- What a rescue's saves promise of what was read.
use Rattle.std.proofs.Common.{◌≡◌, ◌⊎◌, inl, inr, ⊎_elim, ℕ, zero, suc, ◌+◌, ◌≤◌, Bool, true, false, List, [], ◌∷◌, ◌++◌, length, take, Option, Some, refl, sym, ap, ◌∙◌, subst, arith, ◌||◌}
use Rattle.std.proofs.Math.Seq.{take-nil}
use Rattle.faulty_source.specs.Journal.{Reading}
use Rattle.crash_site.specs.Files.{File}
use Rattle.crash_site.specs.Calls.{Entry, Done, image_sync, map_settle}
use Rattle.rescue_rules.specs.Setting.{Setting}
use Rattle.rescue_rules.specs.Start.{Stands}
use Rattle.rescue_rules.specs.Work.{Gain, InOpening, InLoad, InRun, Goes, InMaps, AfterMaps}
use Rattle.rescue_rules.proofs.MapfileLemmas.{mapfile_is}
use Rattle.rescue_rules.specs.Events.{began_at}
use Rattle.rescue_rules.specs.Given.{given}
use Rattle.rescue_rules.specs.Stops.{files_before, has_barrier, is_sync, is_write, LeftBy}
use Rattle.rescue_rules.proofs.ReadyLemmas.{order_over}
use Rattle.rescue_safety.specs.Saves.{CallsFinished}
use Rattle.rescue_safety.specs.Safe.{reads_until, by_then, gives}
use Rattle.rescue_safety.specs.Rescue.{Rescue, run_of}
use Rattle.rescue_safety.specs.AskedFor.{AreSeen}
use Rattle.saved_laws.specs.Laws.{NothingSavedIsLost}
use Rattle.rescue_safety.proofs.BegunLemmas.{writes_in, begun, count_both, count_step}
use Rattle.rescue_safety.proofs.ClaimLemmas.{Ran, goes_ran, never_some}
use Rattle.rescue_safety.proofs.FinishedLemmas.{StandsAt, At, calls_finished}
use Rattle.saved_laws.proofs.NothingLost.{number_finishes}
use Rattle.rescue_safety.proofs.SafeLemmas.{s, g, b, on, ok, goes, over, calls_are, map_is, seen_alone}
use Rattle.rescue_safety.proofs.SaveLemmas.{goes_made}

-- the calls before a call, and it
none_taken : (k : ℕ) (y : Entry) (ys : List Entry) → take k [] ≡ y ∷ ys → ⊥
none_taken k y ys is = let e : [] ≡ y ∷ ys = sym (take-nil k) ∙ is in absurd (cc)

take_one : (es : List Entry) (y : Entry) (calls : List Entry) → take (suc (length es)) calls ≡ es ++ y ∷ []
    → take (length es + 1) calls ≡ es ++ y ∷ []
take_one es y calls is =
    let more : suc (length es) ≡ length es + 1 = omega arith in
    subst (λ (n : ℕ). take n calls ≡ es ++ y ∷ []) more is

take_suc : (es ys : List Entry) (y : Entry) (calls : List Entry) (k : ℕ) → take k calls ≡ es ++ y ∷ ys
    → take (suc (length es)) calls ≡ es ++ y ∷ []
take_suc [] ys y [] k is = absurd (none_taken k y ys is)
take_suc [] ys y (c ∷ calls) zero is = absurd (cc)
take_suc [] ys y (c ∷ calls) (suc k) is = let same : c ≡ y = cc in ap (λ (z : Entry). z ∷ []) same
take_suc (e ∷ es) ys y [] k is = absurd (none_taken k e (es ++ y ∷ ys) is)
take_suc (e ∷ es) ys y (c ∷ calls) zero is = absurd (cc)
take_suc (e ∷ es) ys y (c ∷ calls) (suc k) is =
    let same : c ≡ e = cc in
    let rest : take k calls ≡ es ++ y ∷ ys = cc in
    ap (λ (z : Entry). z ∷ take (suc (length es)) calls) same ∙ ap (λ (l : List Entry). e ∷ l) (take_suc es ys y calls k rest)

-- an image sync that returned is the barrier, or comes after it
or_true : (c : Bool) → (c || true) ≡ true
or_true true = refl
or_true false = refl

pub synced : (es ys : List Entry) → has_barrier (es ++ Done image_sync ∷ ys) ≡ true
synced [] ys = refl
synced (e ∷ es) ys = ap (λ (c : Bool). is_sync e || c) (synced es ys) ∙ or_true (is_sync e)

-- by the time of the sync, those reads count that had begun to be written before
pub then_writes : (k : ℕ) (es ys : List Entry) (calls : List Entry) → take k calls ≡ es ++ Done image_sync ∷ ys
    → writes_in (take (length es + 1) calls) ≡ writes_in es
then_writes k es ys calls is =
    ap writes_in (take_one es (Done image_sync) calls (take_suc es ys (Done image_sync) calls k is))
    ∙ count_both is_write es (Done image_sync ∷ []) ∙ omega (arith, count_step is_write (Done image_sync) [])

then_is : (sector x k : ℕ) (es ys : List Entry) (calls : List Entry) (rs : List Reading)
    → take k calls ≡ es ++ Done image_sync ∷ ys
    → given sector (reads_until sector (writes_in (take (length es + 1) calls)) rs) x ≡ begun sector x (writes_in es) rs
then_is sector x k es ys calls rs is = ap (λ (n : ℕ). begun sector x n rs) (then_writes k es ys calls is)

-- a rescue that read anything had a mapfile that stood for a map
pub unread_or_stands : (s : Setting) (files : List ℕ → Option File) (g : Gain) → s.has_mapfile ≡ true → Goes s files g
    → (g.reads ≡ []) ⊎ StandsAt (files s.names.map) s.end
unread_or_stands s files g named (InMaps maps reads none broke) = inl none
unread_or_stands s files g named (AfterMaps maps rest reads is (InOpening front back same none h)) = inl none
unread_or_stands s files g named (AfterMaps maps rest reads is (InLoad load there begins none h)) = inl none
unread_or_stands s files g named (AfterMaps maps rest reads is (InRun load statuses state end more loaded stands same runs)) =
    inr (At statuses state (subst (λ (o : Option File). Stands o s.end statuses state) (mapfile_is s files named) stands))

module _ (r : Rescue) (k : ℕ) (files : List ℕ → Option File) (before saving after : List Entry)
    (name : List ℕ) (x byte : ℕ) (le : k ≤ length (g r).calls) (left : LeftBy (b r) (g r).calls k files)
    (is : take k (g r).calls ≡ before ++ Done image_sync ∷ (saving ++ Done (map_settle name) ∷ after))
    (gave : begun (s r).sector x (writes_in before) (g r).reads ≡ Some byte) where
  barrier : has_barrier (take k (g r).calls) ≡ true
  barrier = ap has_barrier is ∙ synced before (saving ++ Done (map_settle name) ∷ after)

  -- a rescue that wrote had a mapfile that stood for a map
  pub began_or : StandsAt (files_before (b r) (s r).names.map) (s r).end
  began_or =
      ⊎_elim
      (λ (none : (g r).reads ≡ []).
      absurd (never_some byte (begun (s r).sector x (writes_in before) (g r).reads)
      (ap (λ (rs : List Reading). begun (s r).sector x (writes_in before) rs) none) gave))
      (λ (at : StandsAt (files_before (b r) (s r).names.map) (s r).end). at)
      (unread_or_stands (s r) (files_before (b r)) (g r) (on r) (goes r))

  pub found_finished : StandsAt (files_before (b r) (s r).names.map) (s r).end → CallsFinished (files (s r).names.map) x
  found_finished (At began was there) =
      let kept = (over r k files le left barrier).kept began was there in
      let ran : Ran (s r) began was (g r) = goes_ran (s r) (files_before (b r)) (g r) began was (on r) (goes r) there in
      calls_finished (files (s r).names.map) (s r).end x kept.statuses kept.shows kept.stands
      (number_finishes (s r) began was (g r) (goes_made (s r) (files_before (b r)) (g r) began was (on r) (goes r) there)
      (ok r) (order_over (s r) began was (began_at (g r).times)) ran.run x k kept.number
      (files_before (b r) (s r).names.map) (files (s r).names.map) kept.statuses before saving after name byte is
      (omega (arith, kept.no_older)) kept.is_save
      (ap (λ (rs : List Reading). begun (s r).sector x (writes_in before) rs) ran.reads ∙ gave))

-- by the reads as seen
pub saved_is_found : (r : Rescue) (reads : List Reading) (k : ℕ) (files : List ℕ → Option File)
    (before saving after : List Entry) (name : List ℕ) (x byte : ℕ) → AreSeen r reads
    → k ≤ length r.did.call.calls → LeftBy (run_of r reads).past r.did.call.calls k files
    → take k r.did.call.calls ≡ before ++ Done image_sync ∷ (saving ++ Done (map_settle name) ∷ after)
    → gives (by_then (run_of r reads) (length before)) x ≡ Some byte → CallsFinished (files r.mapfile) x
saved_is_found r reads k files before saving after name x byte seen le left is gave =
    let more : List Entry = saving ++ Done (map_settle name) ∷ after in
    let sector : ℕ = r.command.options.sector in
    let le' : k ≤ length (g r).calls = subst (λ (l : List Entry). k ≤ length l) (calls_are r) le in
    let left' : LeftBy (b r) (g r).calls k files = subst (λ (l : List Entry). LeftBy (b r) l k files) (calls_are r) left in
    let is' : take k (g r).calls ≡ before ++ Done image_sync ∷ more
    = subst (λ (l : List Entry). take k l ≡ before ++ Done image_sync ∷ more) (calls_are r) is in
    let then : begun sector x (writes_in before) (g r).reads ≡ Some byte
    = subst (λ (rs : List Reading). begun sector x (writes_in before) rs ≡ Some byte) (seen_alone r reads seen)
    (sym (then_is sector x k before more r.did.call.calls reads is) ∙ gave) in
    subst (λ (m : List ℕ). CallsFinished (files m) x) (map_is r)
    (found_finished r k files before saving after name x byte le' left' is' then
    (began_or r k files before saving after name x byte le' left' is' then))

pub nothing_saved_is_lost : NothingSavedIsLost
nothing_saved_is_lost = saved_is_found
