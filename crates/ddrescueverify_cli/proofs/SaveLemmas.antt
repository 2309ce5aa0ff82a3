-- What a save did, whether the site tells or not.
use Rattle.std.proofs.Common.{ℕ, false, List, [], map, Ok, Err, refl, sym, inl, append-nil}
use Rattle.crash_site.specs.Calls.{Call, Done as Returned}
use Rattle.crash_site.specs.SiteState.{SiteState}
use Rattle.mapfile_save.specs.declared.draft.SaveFault.{SaveFault}
use Rattle.mapfile_save.specs.MapNames.{MapNames}
use Rattle.mapfile_save.specs.Saving.{save_calls, Saves}
use Rattle.program_promise.proofs.GainLemmas.{MayGain, may_gain}
use Rattle.ddrescueverify_cli.specs.declared.ending.VerifyEnding.TheVariants.{SiteFault}
use Rattle.ddrescueverify_cli.specs.Steps.{SavesText}

pub saved_text : {T : Type 0} (names : MapNames) (text : List ℕ) (x : T) (old new : SiteState)
    → Saves (save_calls names text) false (Ok x) old new → SavesText {T = Unit {0}} names text (Ok tt) old new
saved_text names text x old new s = record {
  calls = map Returned (save_calls names text);
  gained = s.made.made;
  did = (tt, ([], sym (append-nil (map Returned (save_calls names text))), refl));
}

pub broke_text : {T : Type 0} (names : MapNames) (text : List ℕ) (f : SaveFault) (old new : SiteState)
    → Saves {T = T} (save_calls names text) false (Err f) old new
    → SavesText {T = Unit {0}} names text (Err (SiteFault f.call)) old new
broke_text names text f old new s =
    let all : List Call = save_calls names text in
    let g : MayGain old.tells f.call all old.calls new.calls =
    may_gain old.tells f.call all old.calls new.calls s.named s.broke.broke in
    record {
      calls = g.more;
      gained = g.grew;
      did = inl (f.call, refl, g.broke, record { opens = refl; reads = refl; times = refl });
    }
