-- The barrier before a load, and the reads after it.
use Rattle.std.proofs.Common.{◌≡◌, List, Option, inl, inr, subst}
use Rattle.crash_site.specs.declared.site.SiteCall.{SiteCall}
use Rattle.crash_site.specs.declared.site.SiteCall.TheVariants.{ImageSync, MapSettle, MapRead}
use Rattle.crash_site.specs.Files.{File}
use Rattle.crash_site.specs.Calls.{Entry}
use Rattle.crash_site.specs.CallsMade.{BrokeAt}
use Rattle.mapfile_save.specs.MapNames.{MapNames}
use Rattle.mapfile_save.specs.Saving.{IsNameIn}
use Rattle.mapfile_resume.specs.Resuming.{BrokeInLoad, BrokeAsResumed}
use Rattle.mapfile_save.specs.Loading.{barrier_calls}
use Rattle.program_promise.proofs.GainLemmas.{broke_named}

-- no call of the barrier reads a map
pub no_read : (names : MapNames) → IsNameIn MapRead (barrier_calls names) → ⊥
no_read names (inl is) = let e : MapRead ≡ MapSettle = is in cc
no_read names (inr (inl is)) = let e : MapRead ≡ ImageSync = is in cc
no_read names (inr (inr h)) = h

pub in_load : (names : MapNames) (file : Option File) (calls calls' : List Entry) → BrokeAsResumed names file MapRead calls calls'
    → BrokeInLoad (barrier_calls names) names.map file calls calls'
in_load names file calls calls' (inl broke) = absurd (no_read names (broke_named MapRead (barrier_calls names) calls calls' broke))
in_load names file calls calls' (inr broke) = broke.1

pub in_barrier : (names : MapNames) (file : Option File) (call : SiteCall) (calls calls' : List Entry)
    → IsNameIn call (barrier_calls names) → BrokeAsResumed names file call calls calls'
    → BrokeAt call (barrier_calls names) calls calls'
in_barrier names file call calls calls' named (inl broke) = broke
in_barrier names file call calls calls' named (inr broke) =
    absurd (no_read names (subst (λ (c : SiteCall). IsNameIn c (barrier_calls names)) broke.0 named))
