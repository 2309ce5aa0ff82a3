-- Calls of which one broke.
use Rattle.std.proofs.Common.{List, [], ◌∷◌, ◌++◌, refl, inl, inr}
use Rattle.crash_site.specs.declared.site.SiteCall.{SiteCall}
use Rattle.crash_site.specs.Calls.{Call, Entry, Done}
use Rattle.crash_site.specs.CallsMade.{BrokeAt}
use Rattle.mapfile_save.specs.Saving.{IsNameIn}

-- calls of which one broke
pub record Broken (at : SiteCall) (calls : List Call) (old : List Entry) : Type 0 where
  pub new : List Entry
  pub broke : BrokeAt at calls old new

pub broken_at : (at : SiteCall) (calls : List Call) (old : List Entry) → IsNameIn at calls → Broken at calls old
broken_at at [] old h = absurd h
broken_at at (c ∷ cs) old (inl is) = record { new = old; broke = inl (is, inr refl) }
broken_at at (c ∷ cs) old (inr h) =
    let b : Broken at cs (old ++ Done c ∷ []) = broken_at at cs (old ++ Done c ∷ []) h in
    record { new = b.new; broke = inr b.broke }
