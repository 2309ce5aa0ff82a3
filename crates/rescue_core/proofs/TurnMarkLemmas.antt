-- The map after a read, by the parts that the read was cut into.
use Rattle.std.proofs.Common.{◌≡◌, ℕ, ◌+◌, ◌-◌, List, [], ◌++◌, take, drop, ap, ◌∙◌, subst, arith, append-nil}
use Rattle.std.proofs.lemmas.List.{take-append-drop}
use Rattle.block_list.specs.declared.block.Range.{Range}
use Rattle.block_list.specs.declared.status.Status.{Status}
use Rattle.block_list.specs.declared.status.Status.TheVariants.{Finished}
use Rattle.block_list.specs.Map.{marked}
use Rattle.faulty_source.specs.Journal.{Reading, kept}
use Rattle.transfer_token.specs.declared.fetch.Cut.TheVariants.{Part, Nothing}
use Rattle.transfer_token.specs.Tokens.{size_of, IsCut}
use Rattle.rescue_rules.specs.declared.phase.Phase.{Phase}
use Rattle.rescue_rules.specs.declared.progress.Progress.{Progress}
use Rattle.rescue_rules.specs.Step.{map_after, rest_status, scraped}
use Rattle.transfer_token.specs.declared.fetch.Cut.{Cut}
use Rattle.run_options.specs.declared.settings.Settings.{Settings}
use Rattle.rescue_core.specs.RunState.{RunState, setting_in}
use Rattle.rescue_core.specs.TurnParts.{RunsAt}

-- a mark of no positions leaves the map
pub marked_none : (map : List Status) (pos : ℕ) (t : Status) → marked map pos 0 t ≡ map
marked_none map pos t =
    let front : take pos map ++ [] ≡ take pos map = append-nil (take pos map) in
    let here : pos + 0 ≡ pos = omega arith in
    ap (λ (l : List Status). l ++ drop (pos + 0) map) front ∙ ap (λ n. take pos map ++ drop n map) here
    ∙ take-append-drop pos map

pub part_map : (settings : Settings) (phase : Phase) (progress : Progress) (r : RunState) (reading : Reading) (map : List Status)
    (pos : ℕ) (kept : Cut Range) (landed missed : Range) → RunsAt settings phase progress r → r.machine.map ≡ map
    → reading.pos ≡ pos → IsCut settings.sector reading kept → kept ≡ Part landed missed
    → map_after (setting_in r) r.machine reading
    ≡ scraped progress.mode pos (marked (marked map landed.from (size_of landed) Finished) missed.from (size_of missed)
    (rest_status (setting_in r) r.machine (size_of missed)))
part_map settings phase progress r reading map pos cut landed missed at is from h cut_is =
    let k : ℕ = kept settings.sector reading in
    let mode : r.machine.progress.mode ≡ progress.mode = ap (λ (p : Progress). p.mode) at.progress_is in
    let parts : IsCut settings.sector reading (Part landed missed)
    = subst (λ (c : Cut Range). IsCut settings.sector reading c) cut_is h in
    let part = parts.0 in
    let a : landed.from ≡ reading.pos = ap (λ (x : Range). x.from) parts.2 in
    let b : landed.to ≡ reading.pos + k = ap (λ (x : Range). x.to) parts.2 in
    let c : missed.from ≡ reading.pos + k = ap (λ (x : Range). x.from) parts.3 in
    let d : missed.to ≡ reading.pos + reading.asked = ap (λ (x : Range). x.to) parts.3 in
    let m : size_of landed ≡ k = omega arith in
    let n : size_of missed ≡ reading.asked - k = omega arith in
    cc

pub nothing_map : (settings : Settings) (phase : Phase) (progress : Progress) (r : RunState) (reading : Reading)
    (map : List Status) (pos : ℕ) (kept : Cut Range) (missed : Range) → RunsAt settings phase progress r → r.machine.map ≡ map
    → reading.pos ≡ pos → IsCut settings.sector reading kept → kept ≡ Nothing missed
    → map_after (setting_in r) r.machine reading
    ≡ scraped progress.mode pos (marked map missed.from (size_of missed)
    (rest_status (setting_in r) r.machine (size_of missed)))
nothing_map settings phase progress r reading map pos cut missed at is from h cut_is =
    let k : ℕ = kept settings.sector reading in
    let mode : r.machine.progress.mode ≡ progress.mode = ap (λ (p : Progress). p.mode) at.progress_is in
    let parts : IsCut settings.sector reading (Nothing missed)
    = subst (λ (c : Cut Range). IsCut settings.sector reading c) cut_is h in
    let part = parts.0 in
    let none = parts.1 in
    let c : missed.from ≡ reading.pos = ap (λ (x : Range). x.from) parts.2 in
    let d : missed.to ≡ reading.pos + reading.asked = ap (λ (x : Range). x.to) parts.2 in
    let n : size_of missed ≡ reading.asked - k = omega arith in
    let p : missed.from ≡ reading.pos + k = omega arith in
    let z : marked map reading.pos 0 Finished ≡ map = marked_none map reading.pos Finished in
    cc
