-- A mapfile that is removed where it is done.
use Rattle.std.proofs.Common.{◌≡◌, ℕ, Bool, true, IsTrue, List, [], ◌∷◌, ◌++◌, map, refl, sym, ap, ◌∙◌, inl, inr, subst, append_assoc}
use Rattle.std.proofs.lemmas.Bool.{both_ways}
use Rattle.block_list.specs.declared.status.Status.{Status}
use Rattle.rescue_domain.specs.Finished.{is_finished_at}
use Rattle.rescue_domain.specs.Parts.{covers}
use Rattle.map_algebra.specs.Compare.{IsDoneIn, IsOpenIn}
use Rattle.crash_site.specs.declared.site.SiteCall.{SiteCall}
use Rattle.crash_site.specs.declared.site.SiteCall.TheVariants.{MapSettle}
use Rattle.crash_site.specs.Calls.{Entry, Done as Returned, map_remove, map_settle}
use Rattle.crash_site.specs.CallsMade.{Lost, BrokeAt}
use Rattle.crash_site.specs.SiteState.{SiteState}
use Rattle.mapfile_save.specs.Saving.{IsNameIn}
use Rattle.program_promise.specs.Work.{Deeds}
use Rattle.ddrescuelog_words.specs.declared.mode.LogMode.TheVariants.{Test}
use Rattle.ddrescuelog_words.specs.Command.{Command}
use Rattle.program_promise.proofs.LoadLemmas.{by_tells}
use Rattle.ddrescuelog_cli.specs.declared.ending.LogEnding.{LogEnding}
use Rattle.ddrescuelog_cli.specs.declared.ending.LogEnding.TheVariants.{Done, SiteFault}
use Rattle.ddrescuelog_cli.specs.declared.load.LoadedMaps.{LoadedMaps}
use Rattle.ddrescuelog_cli.specs.Maps.{Maps, domain_of}
use Rattle.ddrescuelog_cli.specs.Modes.{looks_at_places, EndsAs, IsNotDone, removal_calls}
use Rattle.program_promise.specs.Parts.{only_calls}
use Rattle.ddrescuelog_cli.specs.Work.{WorksOver}
use Rattle.ddrescuelog_cli.specs.Steps.{IsLoadedAs}
use Rattle.ddrescuelog_cli.specs.Removing.{RemovesDone}
use Rattle.program_promise.proofs.GainLemmas.{GainsBroken, broke_gains}
use Rattle.ddrescuelog_cli.proofs.CallLemmas.{Broken, broken_at}

over_remove : (c : Command) (line list : List ℕ) (m : Maps) (e : LogEnding) (d : Deeds) → c.mode ≡ Test true
    → EndsAs (Test true) c line list m e d → WorksOver c line list m e d
over_remove c line list m e d mode w = inr (inr (
  λ v r. both_ways (looks_at_places c.mode) (ap looks_at_places mode) r.lists,
  subst (λ mode. EndsAs mode c line list m e d) (sym mode) w,
))

not_open : (domain domain' : ℕ → Bool) (statuses statuses' : List Status) → ((x : ℕ) → domain x ≡ domain' x)
    → statuses ≡ statuses' → IsDoneIn domain statuses → IsOpenIn domain' statuses' → ⊥
not_open domain domain' statuses statuses' same is d o =
    both_ways (is_finished_at statuses' o.position) o.unfinished
    (ap (λ s. is_finished_at s o.position) (sym is) ∙ d.each o.position (same o.position ∙ o.inside))

passes : (c : Command) (m : Maps) (l : LoadedMaps) → IsLoadedAs c m l → IsDoneIn (covers l.domain) l.tiles.statuses
    → (v : LogEnding) → IsNotDone c m v → ⊥
passes c m l loaded is_done v not_done =
    not_open (covers l.domain) (domain_of c m) l.tiles.statuses m.statuses loaded.domain loaded.statuses is_done
    not_done.0

broke_ends : (c : Command) (m : Maps) (l : LoadedMaps) (at : SiteCall) (calls : List Entry) → IsLoadedAs c m l
    → c.mode ≡ Test true → IsDoneIn (covers l.domain) l.tiles.statuses → BrokeAt at (removal_calls c.mapfile) [] calls
    → (line list : List ℕ) → WorksOver c line list m (SiteFault at) (only_calls calls)
broke_ends c m l at calls loaded mode is_done broke line list =
    over_remove c line list m (SiteFault at) (only_calls calls) mode
    (inr (
      passes c m l loaded is_done,
      inl (at, refl, broke, record { opens = refl; reads = refl; times = refl }),
    ))

pub removes_broke : (c : Command) (m : Maps) (l : LoadedMaps) (at : SiteCall) (old new : SiteState) → IsLoadedAs c m l
    → c.mode ≡ Test true → IsDoneIn (covers l.domain) l.tiles.statuses → IsNameIn at (removal_calls c.mapfile)
    → (IsTrue old.tells → BrokeAt at (removal_calls c.mapfile) old.calls new.calls)
    → RemovesDone c m (SiteFault at) old new
removes_broke c m l at old new loaded mode is_done named broke =
    by_tells old.tells (RemovesDone c m (SiteFault at) old new)
    (λ t.
    let g : GainsBroken at (removal_calls c.mapfile) old.calls new.calls =
    broke_gains at (removal_calls c.mapfile) old.calls new.calls (broke t) in
    record {
      calls = g.more;
      gained = λ u. g.grew;
      ends = broke_ends c m l at g.more loaded mode is_done g.broke;
    })
    (λ n.
    let b : Broken at (removal_calls c.mapfile) [] = broken_at at (removal_calls c.mapfile) [] named in
    record {
      calls = b.new;
      gained = λ u. absurd (n u);
      ends = broke_ends c m l at b.new loaded mode is_done b.broke;
    })

-- the settle failed after a removal
pub broke_settling : (name : List ℕ) (at : SiteCall) (old mid new : SiteState) → at ≡ MapSettle → mid.tells ≡ old.tells
    → (IsTrue old.tells → mid.calls ≡ old.calls ++ Returned (map_remove name) ∷ [])
    → (IsTrue mid.tells → Lost (map_settle name) mid.calls new.calls)
    → IsTrue old.tells → BrokeAt at (removal_calls name) old.calls new.calls
broke_settling name at old mid new is same removed lost t =
    inr (inl (is, subst (λ r. Lost (map_settle name) r new.calls) (removed t) (lost (subst IsTrue (sym same) t))))

pub removes : (c : Command) (m : Maps) (l : LoadedMaps) (old mid new : SiteState) → IsLoadedAs c m l → c.mode ≡ Test true
    → IsDoneIn (covers l.domain) l.tiles.statuses → mid.tells ≡ old.tells
    → (IsTrue old.tells → mid.calls ≡ old.calls ++ Returned (map_remove c.mapfile) ∷ [])
    → (IsTrue mid.tells → new.calls ≡ mid.calls ++ Returned (map_settle c.mapfile) ∷ [])
    → RemovesDone c m Done old new
removes c m l old mid new loaded mode is_done same removed settled = record {
  calls = map Returned (removal_calls c.mapfile);
  gained = λ t.
      settled (subst IsTrue (sym same) t)
      ∙ ap (λ r. r ++ Returned (map_settle c.mapfile) ∷ []) (removed t)
      ∙ append_assoc old.calls (Returned (map_remove c.mapfile) ∷ []) (Returned (map_settle c.mapfile) ∷ []);
  ends = λ line list. over_remove c line list m Done (only_calls (map Returned (removal_calls c.mapfile))) mode
      (inr (
        passes c m l loaded is_done,
        inr (
          [],
          refl,
          (refl, record { opens = refl; gain = record { calls = refl; reads = refl; times = refl } }),
        ),
      ));
}
