-- What a mapfile stands for.
use Rattle.std.proofs.Common.{◌≡◌, ℕ, ◌+◌, ◌-◌, ◌<◌, ◌≤◌, ◌^◌, Bool, List, [], ◌∷◌, ◌++◌, length, replicate, Option, Some, None, ◌/◌, not, nat_eq, refl, sym, ap, ◌∙◌, subst, arith, append-nil, length-append}
use Rattle.std.proofs.lemmas.List.{length-replicate}
use Rattle.block_list.specs.declared.status.Status.{Status}
use Rattle.block_list.specs.declared.status.Status.TheVariants.{NonTried}
use Rattle.block_list.specs.declared.block.Block.{Block}
use Rattle.block_list.specs.Map.{extended}
use Rattle.mapfile_text.specs.declared.state.MapState.{MapState}
use Rattle.std.proofs.Math.Nat.{div-mul-le_self}
use Rattle.mapfile_text.specs.declared.read.Mode.TheVariants.{Tight}
use Rattle.mapfile_text.specs.Lines.{Line, said_lines}
use Rattle.mapfile_text.specs.MapText.{IsMapText, Continues, Lists, AreMapLines}
use Rattle.mapfile_text.proofs.OneReading.{has_one_reading}
use Rattle.mapfile_text.proofs.ReadPrinted.{printed_is_read}
use Rattle.crash_site.specs.Files.{File}
use Rattle.mapfile_text.proofs.MapLemmas.{map_is_not_blank, state_above}
use Rattle.rescue_rules.specs.Start.{IsFresh, IsResumed, TextStands, AsNone, AsMap, Stands}
use Rattle.rescue_rules.specs.Beginning.{shown_at_first}
use Rattle.rescue_rules.specs.Snapshots.{Snapshot, heading_at, text_of}
use Rattle.rescue_rules.specs.Laws.{StandsForOne}

-- a text stands for one map and one state
texts_once : (text : List ℕ) (end : ℕ) (map map' : List Status) (state state' : Option MapState) → TextStands text end map state
    → TextStands text end map' state'
    → (map ≡ map') × (state ≡ state')
texts_once text end map map' state state' p q =
    elim p [
      | AsNone b x ↦
          elim q [
            | AsNone c y ↦ (x.map_is ∙ sym y.map_is, x.state_is ∙ sym y.state_is)
            | AsMap y ↦ absurd (map_is_not_blank text Tight y.shown y.first y.listed y.statuses y.reads b)
          ]
      | AsMap x ↦
          elim q [
            | AsNone c y ↦ absurd (map_is_not_blank text Tight x.shown x.first x.listed x.statuses x.reads c)
            | AsMap y ↦
                let same
                = has_one_reading text Tight x.shown y.shown x.first y.first x.listed y.listed x.statuses y.statuses x.reads y.reads in (
                  x.map_is ∙ ap (λ s. extended s end) same.statuses_is ∙ sym y.map_is,
                  x.state_is ∙ ap (λ (s : MapState). Some s) same.state_is ∙ sym y.state_is,
                )
          ]
    ]

-- so does a mapfile, absent or not
pub stands_for_one : StandsForOne
stands_for_one None end map map' state state' p q =
    (p.stands.map_is ∙ sym q.stands.map_is, p.stands.state_is ∙ sym q.stands.state_is)
stands_for_one (Some f) end map map' state state' p q = texts_once f.bytes end map map' state state' p.stands q.stands

-- a state that can be printed
pub record IsPrintable (state : MapState) : Type 0 where
  pub pos : state.pos < 2 ^ 63
  pub some : 0 < state.pass
  pub pass : state.pass < 2 ^ 32

-- how long a map is, and what a rescue over it shows at first
pub record IsSmall (end : ℕ) (map : List Status) (state : Option MapState) : Type 0 where
  pub long : end ≤ length map
  pub short : length map < 2 ^ 63
  pub shown : IsPrintable (shown_at_first state)

-- block lines after a place list no more positions than there are up to the limit
continues_small : (end : ℕ) (ls : List Line) (statuses : List Status) → end < 2 ^ 63 → Continues Tight end ls statuses
    → end + length statuses < 2 ^ 63
continues_small end [] statuses small c = omega (arith, ap length c)
continues_small end (l ∷ ls) statuses small c =
    let b : Block = c.0 in
    let rest : List Status = c.2 in
    let after : b.pos + b.size + length rest < 2 ^ 63 = continues_small (b.pos + b.size) ls rest c.3.end c.6 in
    let none : length c.1 ≡ 0 = ap length c.4.1 in
    let size : length statuses ≡ length c.1 + (b.size + length rest)
    = ap length c.5
    ∙ omega (
      arith,
      length-append c.1 (replicate b.size b.status ++ rest),
      length-append
          (replicate b.size b.status) rest,
      length-replicate b.size b.status,
    ) in
    omega (arith, after, none, size, c.4.0)

lists_small : (ls : List Line) (first : ℕ) (listed : Bool) (statuses : List Status)
    → Lists Tight ls first listed statuses → length statuses < 2 ^ 63
lists_small [] first listed statuses c = omega (arith, ap length c.2)
lists_small (l ∷ ls) first listed statuses c =
    let b : Block = c.0 in
    let rest : List Status = c.1 in
    let after : b.pos + b.size + length rest < 2 ^ 63 = continues_small (b.pos + b.size) ls rest c.2.end c.6 in
    let size : length statuses ≡ first + (b.size + length rest)
    = ap length c.5
    ∙ omega (
      arith,
      length-append (replicate first NonTried) (replicate b.size b.status ++ rest),
      length-append
          (replicate b.size b.status) rest,
      length-replicate b.size b.status,
      length-replicate first NonTried,
    ) in
    omega (arith, after, size, c.3)

lines_small : (ls : List Line) (state : MapState) (first : ℕ) (listed : Bool) (statuses : List Status)
    → AreMapLines Tight ls state first listed statuses
    → (length statuses < 2 ^ 63) × IsPrintable state
lines_small [] state first listed statuses m = absurd m
lines_small (l ∷ ls) state first listed statuses m = (
  lists_small ls first listed statuses m.1,
  record { pos = m.0.pos; some = state_above l.fields state m.0.spells; pass = m.0.pass },
)

length-extended : (statuses : List Status) (end : ℕ)
    → length (extended statuses end) ≡ length statuses + (end - length statuses)
length-extended statuses end =
    omega (
      arith,
      length-append statuses (replicate (end - length statuses) NonTried),
      length-replicate
          (end - length statuses) NonTried,
    )

fresh_small : (end : ℕ) (map : List Status) (state : Option MapState) → end < 2 ^ 63 → IsFresh end map state
    → IsSmall end map state
fresh_small end map state small x =
    let size : length map ≡ end = ap length x.map_is ∙ length-replicate end NonTried in
    record {
      long = omega arith;
      short = omega arith;
      shown = subst (λ (o : Option MapState). IsPrintable (shown_at_first o)) (sym x.state_is)
          (record { pos = omega arith; some = omega arith; pass = omega arith });
    }

resumed_small : (text : List ℕ) (end : ℕ) (map : List Status) (state : Option MapState) → end < 2 ^ 63
    → IsResumed text end map state → IsSmall end map state
resumed_small text end map state small x =
    let few = lines_small (said_lines text) x.shown x.first x.listed x.statuses x.reads.reads in
    let size : length map ≡ length x.statuses + (end - length x.statuses)
    = ap length x.map_is ∙ length-extended x.statuses end in
    record {
      long = omega (arith, size);
      short = omega (arith, size, few.0);
      shown = subst (λ (o : Option MapState). IsPrintable (shown_at_first o)) (sym x.state_is) few.1;
    }

text_small : (text : List ℕ) (end : ℕ) (map : List Status) (state : Option MapState) → end < 2 ^ 63
    → TextStands text end map state → IsSmall end map state
text_small text end map state small p = elim p [
  | AsNone b x ↦ fresh_small end map state small x
  | AsMap x ↦ resumed_small text end map state small x
]

-- a mapfile stands for a map of the input's length at least, and below the limits of a text
pub stands_small : (mapfile : Option File) (end : ℕ) (map : List Status) (state : Option MapState) → end < 2 ^ 63
    → Stands mapfile end map state → IsSmall end map state
stands_small None end map state small p = fresh_small end map state small p.stands
stands_small (Some f) end map state small p = text_small f.bytes end map state small p.stands

long_enough : (end : ℕ) (map : List Status) → end ≤ length map → map ≡ extended map end
long_enough end map long =
    let none : end - length map ≡ 0 = omega arith in
    rw none (sym (append-nil map))

seconds_small : (t : ℕ) → t < 2 ^ 64 → t / 1000 < 2 ^ 64
seconds_small t small = omega (arith, div-mul-le_self t 1000)

-- a saved mapfile stands for the map that was saved
pub printed_stands : (line : List ℕ) (f : File) (end : ℕ) (p : Snapshot) → end ≤ length p.map → length p.map < 2 ^ 63
    → IsPrintable p.shown → p.began < 2 ^ 64 → p.now < 2 ^ 64
    → f.bytes ≡ text_of line p → Stands (Some f) end p.map (Some p.shown)
printed_stands line f end p long short shown began now is = record {
  stands = AsMap (record {
    shown = p.shown;
    first = 0;
    listed = not (nat_eq (length p.map) 0);
    statuses = p.map;
    reads = subst (λ t. IsMapText t Tight p.shown 0 (not (nat_eq (length p.map) 0)) p.map) (sym is)
        (printed_is_read (heading_at line p.began p.now) p.shown p.map Tight (seconds_small p.began began)
        (seconds_small p.now now) shown.pos shown.some shown.pass short);
    map_is = long_enough end p.map long;
    state_is = refl;
  });
}
