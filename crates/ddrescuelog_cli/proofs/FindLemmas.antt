-- What a mode that reads finds and prints, as its work.
use Rattle.std.proofs.Common.{◌≡◌, ◌≢◌, ◌⊎◌, ℕ, Bool, true, false, List, [], length, flat_map, unwrap_or, Result, Ok, Err, is_ok, OnOk, OnErr, IfOk, refl, sym, ap, ◌∙◌, inl, inr, subst}
use Rattle.std.proofs.Math.Path.{fun_ext}
use Rattle.std.proofs.lemmas.Bool.{both_ways}
use Rattle.block_list.specs.declared.status.Status.{Status}
use Rattle.block_list.specs.declared.types.TypeSet.{TypeSet}
use Rattle.block_list.specs.Tiled.{Tiled}
use Rattle.option_words.specs.declared.fault.UsageFault.TheVariants.{PlaceTooLarge}
use Rattle.mapfile_text.specs.declared.heading.Program.TheVariants.{Ddrescuelog}
use Rattle.mapfile_text.specs.declared.state.MapState.{MapState}
use Rattle.mapfile_text.specs.HeadingLines.{HeadingLines}
use Rattle.mapfile_text.specs.Printed.{printed}
use Rattle.rescue_console.specs.ConsoleState.{ConsoleState, Puts, PutsPart}
use Rattle.rescue_console.specs.declared.console.Channel.TheVariants.{Out}
use Rattle.rescue_domain.specs.Domain.{whole_domain}
use Rattle.rescue_domain.specs.Parts.{covers}
use Rattle.rescue_domain.specs.Places.{AreAllPlaced, IsAnyBeyond}
use Rattle.rescue_domain.proofs.PlaceLemmas.{never_beyond}
use Rattle.map_algebra.specs.declared.change.TypeChange.{TypeChange}
use Rattle.map_algebra.specs.declared.combine.Op.{Op}
use Rattle.map_algebra.specs.Change.{changed_map}
use Rattle.map_algebra.specs.Combine.{combined_map}
use Rattle.map_algebra.specs.Listing.{listed}
use Rattle.map_counts.specs.Summary.{summary_of}
use Rattle.ddrescuelog_words.specs.declared.mode.LogMode.{LogMode}
use Rattle.ddrescuelog_words.specs.declared.mode.LogMode.TheVariants.{Change, Combine, Complete, ListBlocks, Summarize}
use Rattle.ddrescuelog_words.specs.Command.{Command}
use Rattle.ddrescuelog_cli.specs.declared.load.LoadedMaps.{LoadedMaps}
use Rattle.ddrescuelog_cli.specs.declared.ending.LogEnding.{LogEnding}
use Rattle.ddrescuelog_cli.specs.declared.ending.LogEnding.TheVariants.{Done, Usage, ConsoleFault, NoMemory}
use Rattle.ddrescuelog_cli.specs.Modes.{looks_at_places, prints, puts_pieces, text_of, EndsPrinted, EndsAs}
use Rattle.ddrescuelog_cli.specs.Maps.{Maps, shape_of, domain_of}
use Rattle.ddrescuelog_cli.specs.Results.{map_text, number_line, summary_text}
use Rattle.program_promise.specs.Parts.{only_calls}
use Rattle.program_promise.proofs.PartLemmas.{idle}
use Rattle.ddrescuelog_cli.specs.Work.{PlacesRefused, WorksOver}
use Rattle.ddrescuelog_cli.specs.Printing.{PutsAs, PutsInPieces, PutsPieces}
use Rattle.ddrescuelog_cli.specs.Steps.{IsLoadedAs, HasFound, printed_as}
use Rattle.ddrescuelog_cli.proofs.PieceLemmas.{pieces_as, printed_pieces}

-- the heading of a map with this command line
abbrev pub heading_of : List ℕ → HeadingLines
heading_of line = record { program = Ddrescuelog; line = line; start_s = 0; now_s = 0 }

-- a mode that refuses no place
passes : (c : Command) (mode : LogMode) (m : Maps) → c.mode ≡ mode → looks_at_places mode ≡ false
    → (e : LogEnding) → PlacesRefused c m e → ⊥
passes c mode m is looks e refused = both_ways (looks_at_places c.mode) (ap looks_at_places is ∙ looks) refused.lists

-- it ends and prints as its mode does
found_as : (c : Command) (mode : LogMode) (h : HeadingLines) (m : Maps) (e : LogEnding) (old new : ConsoleState)
    → c.mode ≡ mode → looks_at_places mode ≡ false
    → ((line list : List ℕ) → EndsAs mode c line list m e (only_calls []))
    → ((line : List ℕ) → h ≡ heading_of line → PutsAs (prints mode) e (text_of mode c line m) old new)
    → ((line : List ℕ) → puts_pieces mode ≡ true → PutsInPieces e (text_of mode c line m) old new)
    → HasFound c h m e old new
found_as c mode h m e old new is looks ends out pieces = record {
  ends = λ line list.
      inr (inr (
        passes c mode m is looks,
        subst (λ (x : LogMode). EndsAs x c line list m e (only_calls [])) (sym is) (ends line list),
      ));
  out = λ line heads.
      subst (λ (x : LogMode). PutsAs (prints x) e (text_of x c line m) old new) (sym is) (out line heads);
  pieces = λ line heads.
      subst (λ (x : LogMode). puts_pieces x ≡ true → PutsInPieces e (text_of x c line m) old new) (sym is)
      (pieces line);
}

-- memory ran out for what was to be printed
starved_as : (c : Command) (h : HeadingLines) (m : Maps) (e : LogEnding) (old new : ConsoleState) → e ≡ NoMemory
    → new ≡ old → HasFound c h m e old new
starved_as c h m e old new is same = record {
  ends = λ line list. inl (is, idle);
  out = λ line heads.
      subst (λ (x : LogEnding). PutsAs (prints c.mode) x (text_of c.mode c line m) old new) (sym is) same;
  pieces = λ line heads on.
      subst (λ (x : LogEnding). PutsInPieces x (text_of c.mode c line m) old new) (sym is) same;
}

-- ---- a text that was put, or not all of it

abbrev pub IsPrinted : LogEnding → Type 0
IsPrinted e = (e ≡ Done) ⊎ (e ≡ ConsoleFault)

ends_printed : (e : LogEnding) → IsPrinted e → EndsPrinted e (only_calls [])
ends_printed e (inl is) = inr (is, idle)
ends_printed e (inr is) = inl (is, idle)

is_printed : {T E : Type 0} (r : Result T E) (e : LogEnding) → e ≡ printed_as r → IsPrinted e
is_printed (Ok x) e is = inl is
is_printed (Err f) e is = inr is

puts_as : {T E : Type 0} (r : Result T E) (e : LogEnding) (text : List ℕ) (old new : ConsoleState) → e ≡ printed_as r
    → OnOk r (Puts Out text old new) → OnErr r (PutsPart Out text old new) → OnErr r (text ≢ [])
    → PutsAs true e text old new
puts_as (Ok x) e text old new is put part some = subst (λ (x : LogEnding). PutsAs true x text old new) (sym is) put
puts_as (Err f) e text old new is put part some =
    subst (λ (x : LogEnding). PutsAs true x text old new) (sym is) (some, part)

-- ---- maps

map_is_some : (h : HeadingLines) (shown : MapState) (statuses : List Status) → printed h shown statuses ≢ []
map_is_some h shown statuses none = cc

on_err : {T E : Type 0} (r : Result T E) (P : Type 0) → P → OnErr r P
on_err (Ok x) P p = tt
on_err (Err e) P p = p

-- what the map of a mode is printed as
same_text : (line : List ℕ) (h : HeadingLines) (shown shown' : MapState) (s t : List Status) → h ≡ heading_of line
    → shown ≡ shown' → s ≡ t → printed h shown s ≡ map_text line shown' t
same_text line h shown shown' s t heads shows same =
    ap (λ (x : HeadingLines). printed x shown s) heads
    ∙ ap (λ (x : MapState). printed (heading_of line) x s) shows
    ∙ ap (λ (x : List Status). printed (heading_of line) shown' x) same

-- the map that a mode makes was printed, if there was memory for it
made_printed : {F : Type 0} (c : Command) (mode : LogMode) (h : HeadingLines) (m : Maps) (made : Result Tiled F)
    (shown : MapState) (statuses : List Status) (e : LogEnding) (old new : ConsoleState) → c.mode ≡ mode
    → prints mode ≡ true → puts_pieces mode ≡ false → looks_at_places mode ≡ false
    → ((line list : List ℕ) → EndsPrinted e (only_calls [])
    → EndsAs mode c line list m e (only_calls []))
    → ((line : List ℕ) → map_text line m.shown statuses ≡ text_of mode c line m) → shown ≡ m.shown
    → IfOk made (λ t. t.statuses ≡ statuses) → OnErr made ((e ≡ NoMemory) × (new ≡ old)) → OnOk made (IsPrinted e)
    → IfOk made (λ t. PutsAs true e (printed h shown t.statuses) old new) → HasFound c h m e old new
made_printed c mode h m (Ok t) shown statuses e old new is has whole looks ends texts shows makes starved answers put =
    found_as c mode h m e old new is looks (λ line list. ends line list (ends_printed e answers))
    (λ line heads.
    subst (λ (b : Bool). PutsAs b e (text_of mode c line m) old new) (sym has)
    (subst (λ (x : List ℕ). PutsAs true e x old new)
    (same_text line h shown m.shown t.statuses statuses heads shows makes ∙ texts line) put))
    (λ line on. absurd (both_ways (puts_pieces mode) whole on))
made_printed c mode h m (Err f) shown statuses e old new is has whole looks ends texts shows makes starved answers put =
    starved_as c h m e old new starved.0 starved.1

domain_is : (c : Command) (m : Maps) (l : LoadedMaps) → IsLoadedAs c m l → covers l.domain ≡ domain_of c m
domain_is c m l is = fun_ext is.domain

changed_is : (c : Command) (change : TypeChange) (m : Maps) (l : LoadedMaps) → IsLoadedAs c m l
    → changed_map (covers l.domain) change l.tiles.statuses ≡ changed_map (domain_of c m) change m.statuses
changed_is c change m l is =
    ap (λ (d : ℕ → Bool). changed_map d change l.tiles.statuses) (domain_is c m l is)
    ∙ ap (λ (s : List Status). changed_map (domain_of c m) change s) is.statuses

combined_is : (c : Command) (op : Op) (m : Maps) (l : LoadedMaps) → IsLoadedAs c m l
    → combined_map op (covers l.domain) l.tiles.statuses l.other.statuses
    ≡ combined_map op (domain_of c m) m.statuses m.other
combined_is c op m l is =
    ap (λ (d : ℕ → Bool). combined_map op d l.tiles.statuses l.other.statuses) (domain_is c m l is)
    ∙ ap (λ (s : List Status). combined_map op (domain_of c m) s l.other.statuses) is.statuses
    ∙ ap (λ (s : List Status). combined_map op (domain_of c m) m.statuses s) is.other

then_is : {F : Type 0} (made : Result Tiled F) (s t : List Status) → s ≡ t → IfOk made (λ x. x.statuses ≡ s)
    → IfOk made (λ x. x.statuses ≡ t)
then_is (Ok x) s t same is = is ∙ same
then_is (Err f) s t same is = tt

pub changed_found : {F : Type 0} (c : Command) (change : TypeChange) (h : HeadingLines) (m : Maps) (l : LoadedMaps)
    (made : Result Tiled F) (e : LogEnding) (old new : ConsoleState) → c.mode ≡ Change change → IsLoadedAs c m l
    → IfOk made (λ t. t.statuses ≡ changed_map (covers l.domain) change l.tiles.statuses)
    → OnErr made ((e ≡ NoMemory) × (new ≡ old)) → OnOk made (IsPrinted e)
    → IfOk made (λ t. PutsAs true e (printed h l.state t.statuses) old new) → HasFound c h m e old new
changed_found c change h m l made e old new is loaded makes starved answers put =
    made_printed c (Change change) h m made l.state (changed_map (domain_of c m) change m.statuses) e old new is refl
    refl refl
    (λ line list ends. ends) (λ line. refl) loaded.shown
    (then_is made (changed_map (covers l.domain) change l.tiles.statuses)
    (changed_map (domain_of c m) change m.statuses)
    (changed_is c change m l loaded) makes)
    starved answers put

pub combined_found : {F : Type 0} (c : Command) (op : Op) (h : HeadingLines) (m : Maps) (l : LoadedMaps)
    (made : Result Tiled F) (e : LogEnding) (old new : ConsoleState) → c.mode ≡ Combine op → IsLoadedAs c m l
    → IfOk made (λ t. t.statuses ≡ combined_map op (covers l.domain) l.tiles.statuses l.other.statuses)
    → OnErr made ((e ≡ NoMemory) × (new ≡ old)) → OnOk made (IsPrinted e)
    → IfOk made (λ t. PutsAs true e (printed h l.state t.statuses) old new) → HasFound c h m e old new
combined_found c op h m l made e old new is loaded makes starved answers put =
    made_printed c (Combine op) h m made l.state (combined_map op (domain_of c m) m.statuses m.other) e old new is refl
    refl refl
    (λ line list ends. ends) (λ line. refl) loaded.shown
    (then_is made (combined_map op (covers l.domain) l.tiles.statuses l.other.statuses)
    (combined_map op (domain_of c m) m.statuses m.other) (combined_is c op m l loaded) makes)
    starved answers put

pub completed_found : {T F : Type 0} (c : Command) (status : Status) (h : HeadingLines) (m : Maps) (l : LoadedMaps)
    (r : Result T F) (e : LogEnding) (old new : ConsoleState) → c.mode ≡ Complete status → IsLoadedAs c m l
    → e ≡ printed_as r → OnOk r (Puts Out (printed h l.state l.tiles.statuses) old new)
    → OnErr r (PutsPart Out (printed h l.state l.tiles.statuses) old new) → HasFound c h m e old new
completed_found c status h m l r e old new is loaded answers put part =
    found_as c (Complete status) h m e old new is refl (λ line list. ends_printed e (is_printed r e answers))
    (λ line heads.
    subst (λ (x : List ℕ). PutsAs true e x old new)
    (same_text line h l.state m.shown l.tiles.statuses m.statuses heads loaded.shown loaded.statuses)
    (puts_as r e (printed h l.state l.tiles.statuses) old new answers put part
    (on_err r (printed h l.state l.tiles.statuses ≢ []) (map_is_some h l.state l.tiles.statuses))))
    (λ line on. absurd (both_ways false refl on))

-- ---- a summary

summary_is : (c : Command) (m : Maps) (l : LoadedMaps) → IsLoadedAs c m l
    → summary_text l.state (summary_of (covers l.domain) l.tiles.statuses)
    ≡ summary_text m.shown (summary_of (domain_of c m) m.statuses)
summary_is c m l is =
    ap (λ (x : MapState). summary_text x (summary_of (covers l.domain) l.tiles.statuses)) is.shown
    ∙ ap (λ (d : ℕ → Bool). summary_text m.shown (summary_of d l.tiles.statuses)) (domain_is c m l is)
    ∙ ap (λ (s : List Status). summary_text m.shown (summary_of (domain_of c m) s)) is.statuses

pub summarized_found : {T F : Type 0} (c : Command) (h : HeadingLines) (m : Maps) (l : LoadedMaps) (text : List ℕ)
    (r : Result T F) (e : LogEnding) (old new : ConsoleState) → c.mode ≡ Summarize → IsLoadedAs c m l
    → text ≡ summary_text l.state (summary_of (covers l.domain) l.tiles.statuses) → e ≡ printed_as r
    → PutsPieces text (is_ok r) old new → HasFound c h m e old new
summarized_found c h m l text r e old new is loaded makes answers puts =
    let whole : List ℕ = summary_text m.shown (summary_of (domain_of c m) m.statuses) in
    let put : PutsInPieces e whole old new =
    subst (λ (x : List ℕ). PutsInPieces e x old new) (makes ∙ summary_is c m l loaded)
    (printed_pieces r e text old new answers puts) in
    found_as c Summarize h m e old new is refl (λ line list. ends_printed e (is_printed r e answers))
    (λ line heads. pieces_as e whole old new put) (λ line on. put)

-- ---- numbers of blocks

abbrev IsPlaceRefused : LogEnding → Type 0
IsPlaceRefused e = e ≡ Usage PlaceTooLarge

-- the places of the positions that the mapfile has
abbrev whole_of : Command → List Status → ℕ → Bool
whole_of c statuses = whole_domain c.options.input_position c.options.size (length statuses)

places_pass : (c : Command) (m : Maps)
    → AreAllPlaced (whole_of c m.statuses) c.options.input_position
    (unwrap_or c.options.output_position c.options.input_position)
    → (e : LogEnding) → PlacesRefused c m e → ⊥
places_pass c m placed e refused =
    never_beyond (whole_of c m.statuses) c.options.input_position
    (unwrap_or c.options.output_position c.options.input_position) placed refused.beyond

-- what is listed of what was loaded
abbrev pub listed_in : Command → TypeSet → LoadedMaps → List ℕ
listed_in c types l = listed (record {
  domain = covers l.domain;
  types = types;
  shape = shape_of c.options;
  statuses = l.tiles.statuses;
})

listed_is : (c : Command) (types : TypeSet) (line : List ℕ) (m : Maps) (l : LoadedMaps) → IsLoadedAs c m l
    → flat_map number_line (listed_in c types l) ≡ text_of (ListBlocks types) c line m
listed_is c types line m l is =
    ap (λ (d : ℕ → Bool). flat_map number_line (listed (record {
      domain = d;
      types = types;
      shape = shape_of c.options;
      statuses = l.tiles.statuses;
    }))) (domain_is c m l is)
    ∙ ap (λ (s : List Status). flat_map number_line (listed (record {
      domain = domain_of c m;
      types = types;
      shape = shape_of c.options;
      statuses = s;
    }))) is.statuses

list_ends : (c : Command) (types : TypeSet) (m : Maps) (e : LogEnding) → c.mode ≡ ListBlocks types
    → (IsPlaceRefused e
    → IsAnyBeyond (whole_of c m.statuses) c.options.input_position
    (unwrap_or c.options.output_position c.options.input_position))
    → ((IsPlaceRefused e → ⊥)
    → AreAllPlaced (whole_of c m.statuses) c.options.input_position
    (unwrap_or c.options.output_position c.options.input_position))
    → IsPlaceRefused e ⊎ (e ≡ Done) ⊎ (e ≡ ConsoleFault) → (line list : List ℕ)
    → WorksOver c line list m e (only_calls [])
list_ends c types m e is beyond fit (inl refused) line list =
    inr (inl (record { lists = ap looks_at_places is; beyond = beyond refused; is = refused }, idle))
list_ends c types m e is beyond fit (inr (inl done)) line list =
    inr (inr (
      places_pass c m (fit (λ refused. let no : Done ≡ Usage PlaceTooLarge = sym done ∙ refused in absurd (cc))),
      subst (λ (x : LogMode). EndsAs x c line list m e (only_calls [])) (sym is) (ends_printed e (inl done)),
    ))
list_ends c types m e is beyond fit (inr (inr broke)) line list =
    inr (inr (
      places_pass c m (fit (λ refused. let no : ConsoleFault ≡ Usage PlaceTooLarge = sym broke ∙ refused in
          absurd (cc))),
      subst (λ (x : LogMode). EndsAs x c line list m e (only_calls [])) (sym is) (ends_printed e (inr broke)),
    ))

pub listed_found : (c : Command) (types : TypeSet) (h : HeadingLines) (m : Maps) (l : LoadedMaps) (e : LogEnding)
    (old new : ConsoleState) → c.mode ≡ ListBlocks types → IsLoadedAs c m l
    → (IsPlaceRefused e
    → IsAnyBeyond (whole_of c l.tiles.statuses) c.options.input_position
    (unwrap_or c.options.output_position c.options.input_position))
    → ((IsPlaceRefused e → ⊥)
    → AreAllPlaced (whole_of c l.tiles.statuses) c.options.input_position
    (unwrap_or c.options.output_position c.options.input_position))
    → IsPlaceRefused e ⊎ (e ≡ Done) ⊎ (e ≡ ConsoleFault)
    → PutsInPieces e (flat_map number_line (listed_in c types l)) old new → HasFound c h m e old new
listed_found c types h m l e old new is loaded beyond fit answers put = record {
  ends = list_ends c types m e is
      (λ refused. subst (λ (s : List Status). IsAnyBeyond (whole_of c s) c.options.input_position
      (unwrap_or c.options.output_position c.options.input_position))
      loaded.statuses (beyond refused))
      (λ passed. subst (λ (s : List Status). AreAllPlaced (whole_of c s) c.options.input_position
      (unwrap_or c.options.output_position c.options.input_position))
      loaded.statuses (fit passed))
      answers;
  out = λ line heads.
      subst (λ (x : LogMode). PutsAs (prints x) e (text_of x c line m) old new) (sym is)
      (subst (λ (x : List ℕ). PutsAs true e x old new) (listed_is c types line m l loaded)
      (pieces_as e (flat_map number_line (listed_in c types l)) old new put));
  pieces = λ line heads.
      subst (λ (x : LogMode). puts_pieces x ≡ true → PutsInPieces e (text_of x c line m) old new) (sym is)
      (λ on. subst (λ (x : List ℕ). PutsInPieces e x old new) (listed_is c types line m l loaded) put);
}
