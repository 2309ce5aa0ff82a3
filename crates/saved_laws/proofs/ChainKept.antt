-- What a chain of rescues keeps of the mapfile that its first run found, or that one of its runs saved.
use Rattle.std.proofs.Common.{◌≡◌, ◌≢◌, ⊎_elim, ℕ, Bool, true, false, List, [], ◌∷◌, length, take, All, Option, sym, subst, ◌∙◌}
use Rattle.std.proofs.lemmas.Bool.{cases_Bool}
use Rattle.std.proofs.lemmas.List.Elements.{All-nil, All-cons, All-head, All-tail}
use Rattle.block_list.specs.declared.status.Status.TheVariants.{NonTried}
use Rattle.crash_site.specs.Files.{File, draft_of}
use Rattle.crash_site.specs.Calls.{Entry}
use Rattle.crash_site.specs.Left.{MayBeLeft}
use Rattle.crash_site.proofs.LawLemmas.{others_stand}
use Rattle.mapfile_save.proofs.NameLemmas.{apart_draft}
use Rattle.rescue_rules.specs.Preparation.{tried_again, if_asked}
use Rattle.rescue_rules.specs.Stops.{Before, files_before, has_barrier, CouldBefore, LeftBy}
use Rattle.rescue_safety.specs.Saves.{CallsFinished}
use Rattle.rescue_safety.specs.Safe.{Target, by_then, IsSafe}
use Rattle.rescue_safety.specs.Rescue.{Rescue, run_of}
use Rattle.rescue_safety.specs.Runs.{resting, Link, IsChain, NextBegins, Stopped, Ended}
use Rattle.rescue_safety.proofs.OwedLemmas.{reads_left}
use Rattle.rescue_safety.proofs.PartLemmas.{ended_left}
use Rattle.rescue_safety.proofs.SafeLemmas.{safe_anywhere}
use Rattle.saved_laws.specs.Failed.{MarksTried}
use Rattle.saved_laws.specs.Laws.{ChainKeepsSaved, ChainKeepsOld, ChainKeepsFailed}
use Rattle.saved_laws.proofs.SavedLemmas.{saved_is_found}
use Rattle.saved_laws.proofs.StaysTried.{tried_is_kept}
use Rattle.saved_laws.proofs.TriedKept.{failed_is_found}

module _ (P : Option File → Type 0) where
  -- it holds of the mapfile at each stop then
  abbrev FoundAt : (mapfile : List ℕ) → Before → Type 0
  FoundAt mapfile b = (found : List ℕ → Option File) → MayBeLeft b.start b.earlier (length b.earlier) found → P (found mapfile)

  -- it holds where a run begins on durable files
  at_rest_found : (mapfile : List ℕ) (files : List ℕ → Option File) → P (files mapfile) → FoundAt mapfile (resting files)
  at_rest_found mapfile files has =
      λ found may. subst P (sym (others_stand (resting files).start [] mapfile 0 found tt may)) has

  -- what holds at each stop of a run holds where the next run begins
  next_finds : (outfile mapfile : List ℕ) (from : Before) (calls : List Entry) (k : ℕ) (next : Before)
      → ((files : List ℕ → Option File) → LeftBy from calls k files → P (files mapfile))
      → NextBegins outfile from calls k next → FoundAt mapfile next
  next_finds outfile mapfile from calls k next finds (Stopped files left is) =
      subst (λ (b : Before). FoundAt mapfile b) (sym is) (at_rest_found mapfile files (finds files left))
  next_finds outfile mapfile from calls k next finds (Ended part silent p quiet is) =
      subst (λ (b : Before). FoundAt mapfile b) (sym is)
      (λ found may. finds found (ended_left from outfile calls k part silent found p quiet may))

  module _ (t : Target) (apart : t.outfile ≢ t.mapfile) where
    -- a run that is past its barrier keeps it
    abbrev Keeps : Link t → Type 0
    Keeps l = (files : List ℕ → Option File)
        → LeftBy (run_of l.rescue l.reads).past l.rescue.did.call.calls l.moment files
        → has_barrier (take l.moment l.rescue.did.call.calls) ≡ true
        → P (files_before (run_of l.rescue l.reads).past l.rescue.mapfile) → P (files l.rescue.mapfile)

    module _ (l : Link t) where
      abbrev r : Rescue
      r = l.rescue

      abbrev past : Before
      past = (run_of l.rescue l.reads).past

      own_apart : r.mapfile ≢ r.command.outfile
      own_apart is = apart (sym l.outfile ∙ sym is ∙ l.mapfile)

      -- what holds at each stop before a run holds at each stop of it
      stop_finds : Keeps l → FoundAt l.rescue.mapfile (run_of l.rescue l.reads).past → (files : List ℕ → Option File)
          → LeftBy (run_of l.rescue l.reads).past r.did.call.calls l.moment files → P (files r.mapfile)
      stop_finds keeps before files left =
          let safe : IsSafe (by_then (run_of l.rescue l.reads) l.moment) l.moment files
          = (safe_anywhere r l.reads l.are_seen).safe l.moment files l.within left in
          ⊎_elim
          (λ (on : has_barrier (take l.moment r.did.call.calls) ≡ true).
          keeps files left on (before (files_before past) (reads_left past)))
          (λ (off : has_barrier (take l.moment r.did.call.calls) ≡ false).
          let could : CouldBefore past r.command.outfile (draft_of r.mapfile) files = safe.until_barrier off in
          subst P (sym (could.others r.mapfile own_apart (apart_draft r.mapfile))) (before could.before could.left))
          (cases_Bool (has_barrier (take l.moment r.did.call.calls)))

      link_finds : ((files : List ℕ → Option File)
          → LeftBy (run_of l.rescue l.reads).past r.did.call.calls l.moment files → P (files r.mapfile))
          → FoundAt t.mapfile l.next
      link_finds finds =
          next_finds t.outfile t.mapfile past r.did.call.calls l.moment l.next
          (λ files left. subst (λ (m : List ℕ). P (files m)) l.mapfile (finds files left)) l.begins

    -- so it holds after the runs that follow
    chain_finds : (links : List (Link t)) (from to : Before) → All Keeps links → IsChain from links to
        → FoundAt t.mapfile from → FoundAt t.mapfile to
    chain_finds [] from to each chain finds = subst (λ (b : Before). FoundAt t.mapfile b) (sym chain) finds
    chain_finds (l ∷ links) from to each chain finds =
        chain_finds links l.next to (All-tail Keeps l links each) chain.1
        (link_finds l (stop_finds l (All-head Keeps l links each)
        (subst (λ (m : List ℕ). FoundAt m (run_of l.rescue l.reads).past) (sym l.mapfile)
        (subst (λ (b : Before). FoundAt t.mapfile b) (sym chain.0) finds))))

-- ---- each run keeps what is finished, and what is tried, unless it is asked to try again

module _ (t : Target) (apart : t.outfile ≢ t.mapfile) (x : ℕ) where
  abbrev FinishedIn : Option File → Type 0
  FinishedIn mapfile = CallsFinished mapfile x

  abbrev TriedIn : Option File → Type 0
  TriedIn mapfile = MarksTried mapfile x

  abbrev NotAgain : Link t → Type 0
  NotAgain l = l.rescue.command.options.try_again ≡ false

  finished_kept : (l : Link t) → Keeps (λ (f : Option File). CallsFinished f x) t apart l
  finished_kept l files left on was =
      let safe : IsSafe (by_then (run_of l.rescue l.reads) l.moment) l.moment files
      = (safe_anywhere l.rescue l.reads l.are_seen).safe l.moment files l.within left in
      (safe.past_barrier on).kept x was

  all_finished : (links : List (Link t)) → All (Keeps (λ (f : Option File). CallsFinished f x) t apart) links
  all_finished [] = All-nil (Keeps FinishedIn t apart)
  all_finished (l ∷ links) = All-cons (Keeps FinishedIn t apart) l links (finished_kept l) (all_finished links)

  tried_kept : (l : Link t) → l.rescue.command.options.try_again ≡ false
      → Keeps (λ (f : Option File). MarksTried f x) t apart l
  tried_kept l off files left on was =
      tried_is_kept l.rescue l.moment files was.0 x l.within left on
      (subst (λ (again : Bool). if_asked again tried_again was.0 ≢ NonTried) (sym off) was.1) was.2

  all_tried : (links : List (Link t)) → All (λ (l : Link t). l.rescue.command.options.try_again ≡ false) links
      → All (Keeps (λ (f : Option File). MarksTried f x) t apart) links
  all_tried [] each = All-nil (Keeps TriedIn t apart)
  all_tried (l ∷ links) each =
      All-cons (Keeps TriedIn t apart) l links (tried_kept l (All-head NotAgain l links each))
      (all_tried links (All-tail NotAgain l links each))

pub chain_keeps_saved : ChainKeepsSaved
chain_keeps_saved t found l links to before saving after name x byte apart chain left is gave =
    chain_finds (λ (f : Option File). CallsFinished f x) t apart links l.next to (all_finished t apart x links) chain.1
    (link_finds (λ (f : Option File). CallsFinished f x) t apart l
    (λ files stop.
    saved_is_found l.rescue l.reads l.moment files before saving after name x byte l.are_seen l.within stop is gave))
    found left

pub chain_keeps_failed : ChainKeepsFailed
chain_keeps_failed t found l links to before saving after name x apart chain left is each f =
    chain_finds (λ (f : Option File). MarksTried f x) t apart links l.next to (all_tried t apart x links each) chain.1
    (link_finds (λ (f : Option File). MarksTried f x) t apart l
    (λ files stop.
    failed_is_found l.rescue l.reads l.moment files before saving after name x l.are_seen l.within stop is f))
    found left

pub chain_keeps_old : ChainKeepsOld
chain_keeps_old t files found links to x apart chain left = (
  (λ was. chain_finds (λ (f : Option File). CallsFinished f x) t apart links (resting files) to
      (all_finished t apart x links) chain
      (at_rest_found (λ (f : Option File). CallsFinished f x) t.mapfile files was) found left),
  (λ each was. chain_finds (λ (f : Option File). MarksTried f x) t apart links (resting files) to
      (all_tried t apart x links each) chain
      (at_rest_found (λ (f : Option File). MarksTried f x) t.mapfile files was) found left),
)
