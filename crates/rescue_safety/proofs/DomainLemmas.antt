-- What is in the domain is asked for.
use Rattle.std.proofs.Common.{◌≡◌, ℕ, ◌+◌, ◌<◌, ◌≤◌, Bool, true, ◌&&◌, nat_le, nat_lt, List, Option, Some, None, is_some, sym, ap, ◌∙◌, subst}
use Rattle.std.specs.Prelude.{IfSome}
use Rattle.std.proofs.lemmas.Bool.{and_parts, leb-true, ltb-true}
use Rattle.block_list.specs.declared.status.Status.{Status}
use Rattle.block_list.specs.declared.status.Status.TheVariants.{Finished}
use Rattle.block_list.specs.Map.{Has}
use Rattle.block_list.proofs.StretchLemmas.{equal_from_same}
use Rattle.crash_site.specs.Files.{File, file_named}
use Rattle.mapfile_resume.specs.Named.{map_mode, IsMapOf}
use Rattle.rescue_domain.specs.Domain.{is_below, whole_domain, in_map}
use Rattle.rescue_domain.specs.Finished.{is_finished, is_finished_at}
use Rattle.ddrescue_words.specs.Command.{Command, Rescue as ForRescue}
use Rattle.task_files.specs.Asked.{Maps, domain_asked, in_list}
use Rattle.task_files.specs.Maps.{Found, found_in, mapfile_of, MapfileLists}
use Rattle.ddrescue_cli.specs.Ddrescue.{TaskDone}
use Rattle.rescue_safety.specs.Rescue.{Rescue, files_at_first}
use Rattle.rescue_safety.specs.AskedFor.{IsAskedFor}

pub some_finished : (status : Option Status) → is_finished status ≡ true → status ≡ Some Finished
some_finished None is = absurd (cc)
some_finished (Some s) is = ap (λ (v : Status). Some v) (equal_from_same s Finished is)

in_size : (pos : ℕ) (size : Option ℕ) (x : ℕ) → is_below pos size x ≡ true → IfSome size (λ n. x < pos + n)
in_size pos None x is = tt
in_size pos (Some n) x is = ltb-true x (pos + n) is

in_list_first : (d : ℕ → Bool) (listed : Option (ℕ × ℕ)) (x : ℕ) → in_list d listed x ≡ true → d x ≡ true
in_list_first d None x is = is
in_list_first d (Some k) x is =
    (and_parts (d x) (nat_le k.0 x) (and_parts (d x && nat_le k.0 x) (nat_lt x k.1) is).0).0

in_list_range : (d : ℕ → Bool) (first end : ℕ) (x : ℕ) → in_list d (Some (first, end)) x ≡ true → (first ≤ x) × (x < end)
in_list_range d first end x is =
    let outer = and_parts (d x && nat_le first x) (nat_lt x end) is in
    (leb-true first x (and_parts (d x) (nat_le first x) outer.0).1, ltb-true x end outer.1)

in_map_first : (d : ℕ → Bool) (map : Option (List Status)) (x : ℕ) → in_map d map x ≡ true → d x ≡ true
in_map_first d None x is = is
in_map_first d (Some map) x is = (and_parts (d x) (is_finished_at map x) is).0

in_map_has : (d : ℕ → Bool) (map : List Status) (x : ℕ) → in_map d (Some map) x ≡ true → Has map Finished x
in_map_has d map x is = some_finished _ (and_parts (d x) (is_finished_at map x) is).1

record InWhole (pos : ℕ) (most : Option ℕ) (limit x : ℕ) : Type 0 where
  pub from : pos ≤ x
  pub size : IfSome most (λ n. x < pos + n)
  pub within : x < limit

in_whole : (pos : ℕ) (size : Option ℕ) (limit x : ℕ) → whole_domain pos size limit x ≡ true → InWhole pos size limit x
in_whole pos size limit x is =
    let outer = and_parts (nat_le pos x && is_below pos size x) (nat_lt x limit) is in
    let inner = and_parts (nat_le pos x) (is_below pos size x) outer.0 in
    record {
      from = leb-true pos x inner.0;
      size = in_size pos size x inner.1;
      within = ltb-true x limit outer.1;
    }

-- the file that an option names
pub named_file : (name : Option (List ℕ)) (n : List ℕ) (files : List ℕ → Option File) → name ≡ Some n
    → file_named name files ≡ files n
named_file name n files is = ap (λ (o : Option (List ℕ)). file_named o files) is

pub asked_for : (r : Rescue) (p : TaskDone (ForRescue r.command) r.did.call.told) (x : ℕ)
    → domain_asked r.command.options p.outside.end p.outside.maps x ≡ true → IsAskedFor r x
asked_for r p x is =
    let c : Command = r.command in
    let files : List ℕ → Option File = files_at_first r in
    let maps : Maps = p.outside.maps in
    let whole : ℕ → Bool = whole_domain c.options.input_position c.options.size p.outside.end in
    let mapped : ℕ → Bool = in_map whole maps.domain in
    let found : p.outside.found ≡ found_in c files = p.agrees.agrees.found r.did.call.site_tells in
    let in_mapped : in_map whole maps.domain x ≡ true = in_list_first mapped maps.listed x is in
    let w : InWhole c.options.input_position c.options.size p.outside.end x
    = in_whole c.options.input_position c.options.size p.outside.end x (in_map_first whole maps.domain x in_mapped) in
    record {
      from = w.from;
      within = subst (λ (n : ℕ). x < n) (p.agrees.agrees.end r.did.source_tells) w.within;
      size = w.size;
      domain = λ name statuses named map.
          let file : p.outside.found.domain ≡ files name
          = ap (λ (f : Found). f.domain) found ∙ named_file c.domain_map name files named in
          let are : maps.domain ≡ Some statuses
          = p.agrees.are_maps.domain statuses (ap is_some named)
          (subst (λ (f : Option File). IsMapOf f (map_mode c.options.loose) statuses) (sym file) map) in
          in_map_has whole statuses x
          (subst (λ (o : Option (List Status)). in_map whole o x ≡ true) are in_mapped);
      listed = λ first end only lists.
          let file : p.outside.found.mapfile ≡ mapfile_of c files = ap (λ (f : Found). f.mapfile) found in
          let are : maps.listed ≡ Some (first, end)
          = p.agrees.are_maps.listed first end only
          (subst (λ (f : Option File). MapfileLists f first end) (sym file) lists) in
          in_list_range mapped first end x (subst (λ (o : Option (ℕ × ℕ)). in_list mapped o x ≡ true) are is);
    }
