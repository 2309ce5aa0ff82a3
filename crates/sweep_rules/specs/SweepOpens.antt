-- A sweep that ended before its first piece, and what it promises. For contracts and proofs: no promise uses it.
use Rattle.std.specs.Prelude.{◌≡◌, ◌⊎◌, ⊤, ℕ, ◌≤◌, Bool, true, false, List, [], ◌∷◌, ◌++◌, length, map, Option, Some, None}
use Rattle.crash_site.specs.declared.site.SiteCall.TheVariants.{MapRead}
use Rattle.crash_site.specs.Files.{File}
use Rattle.crash_site.specs.Calls.{Call, Entry, Done}
use Rattle.crash_site.specs.CallsMade.{Lost, BrokeAt}
use Rattle.mapfile_save.specs.Loading.{BeginsLoad}
use Rattle.rescue_rules.specs.Setting.{Setting}
use Rattle.rescue_rules.specs.Laws.{AreThreeNames}
use Rattle.rescue_rules.specs.Stops.{Before, files_before}
use Rattle.rescue_rules.specs.StopsBy.{StopsBy}
use Rattle.sweep_rules.specs.SweepWork.{sweep_opening}

-- How far it came over files as they read before it, by its calls.
pub data EndsEarly (s : Setting) (makes : Bool) (files : List ℕ → Option File) (calls : List Entry) : Type 0 where
  -- some of the opening's calls returned, and perhaps one more failed
  InOpening : (front : List Call) (back : List Call) → front ++ back ≡ sweep_opening s makes
      → (calls ≡ map Done front)
      ⊎ ((call : Call) × (rest : List Call) × (back ≡ call ∷ rest) × Lost call (map Done front) calls)
      → EndsEarly s makes files calls
  -- the mapfile was being read, or was read and no sweep begun
  InLoad : (load : List Call) → BeginsLoad s.names.map (files s.names.map) load
      → (calls ≡ map Done (sweep_opening s makes ++ load)) ⊎ BrokeAt MapRead (sweep_opening s makes ++ load) [] calls
      → EndsEarly s makes files calls

-- the output is there, or it is made if it is absent; if it is neither, there is no call after the open
abbrev pub OpensOrEnds : (makes : Bool) → Option File → List Entry → Type 0
OpensOrEnds true file calls = ⊤
OpensOrEnds false None calls = length calls ≤ 1
OpensOrEnds false (Some f) calls = ⊤

-- law: such a sweep stops safely: it saves nothing, and so the mapfile that is found gives the map that it gave before
abbrev pub EndsEarlySafely : Type 0
EndsEarlySafely = (b : Before) (s : Setting) (makes : Bool) (calls : List Entry) → s.has_mapfile ≡ true
    → AreThreeNames s → OpensOrEnds makes (files_before b s.outfile) calls → EndsEarly s makes (files_before b) calls
    → StopsBy (λ began shown. []) (λ old began shown number map image. map ≡ began) makes b s calls
