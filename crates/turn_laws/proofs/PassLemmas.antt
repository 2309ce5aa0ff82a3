-- A run comes to a phase over passes that are spent.
use Rattle.std.proofs.Common.{◌≡◌, ℕ, zero, suc, ◌+◌, ◌-◌, ◌<◌, ◌≤◌, true, false, if◌then◌else◌, All, Contains, List, [], ◌∷◌, ◌++◌, map, drop, refl, sym, ap, subst, ◌∙◌, arith, append_assoc, append-nil, ⊎_elim}
use Rattle.std.specs.List.{slice_get, slice_index_or, range_with_len}
use Rattle.std.proofs.lemmas.Bool.{cases_lt, cond_both, true≢false}
use Rattle.std.proofs.lemmas.List.Elements.{All-append, All-cons, All-contains, All-drop, All-head, All-nil, All-tail, Contains-append_left}
use Rattle.block_list.specs.declared.status.Status.TheVariants.{NonTried, NonTrimmed, NonScraped}
use Rattle.block_list.specs.Map.{Has}
use Rattle.rescue_rules.specs.declared.phase.Phase.{Phase}
use Rattle.rescue_rules.specs.declared.phase.Phase.TheVariants.{Copying, Trimming, Scraping, Retrying}
use Rattle.rescue_rules.specs.Setting.{Setting}
use Rattle.rescue_rules.specs.Passes.{Pass, taken, numbered, copying_passes, passes_in, passes_after, passes_from}
use Rattle.rescue_rules.specs.Machine.{Machine, pass_of, is_live, search_of, is_ahead}
use Rattle.rescue_rules.specs.MachineLaws.{HasNone}
use Rattle.rescue_rules.specs.Step.{trims, is_trimming}
use Rattle.rescue_rules.proofs.OverLemmas.{wanted_live}
use Rattle.rescue_rules.proofs.ReadyLemmas.{order_lead, request_none}
use Rattle.rescue_rules.proofs.StatusLemmas.{wanted_taken}
use Rattle.rescue_core.specs.RunState.{RunState, setting_in, passed, IsGone}
use Rattle.rescue_core.specs.Stages.{Known, IsTrimmed}
use Rattle.rescue_phases.proofs.AlikeLemmas.{alike_by, alike_on, next_pass_is_alike}
use Rattle.rescue_phases.specs.Copying.{MayCopy}
use Rattle.rescue_phases.proofs.CopyingLemmas.{first_of, wanted_here}
use Rattle.rescue_phases.specs.Past.{IsPast}
use Rattle.run_laws.proofs.OrderLemmas.{Follows, AreOrdered, ordered_from, never_follows, after_contains, has_last, has_trimming, has_scraping}
use Rattle.turn_laws.specs.UnderWay.{StillComes, Now, Later}
use Rattle.turn_laws.specs.PassLaws.{passed_over, LeadsPast, SpentLeadsPast, passes_up_to, known_past, TypedLeadsPast, UnderWayMayCopy, CopyingIsUnderWay, PastIsUnderWay}

-- the next pass, and those after it
two_by : (ps : List Pass) (p : Pass) (qs : List Pass) → drop 1 ps ≡ p ∷ qs → (c : Pass) × (ps ≡ c ∷ p ∷ qs)
two_by [] p qs is = absurd (cc)
two_by (c ∷ ps) p qs is = (c, ap (λ (rest : List Pass). c ∷ rest) is)

pub spent_leads_past : SpentLeadsPast
spent_leads_past r phase [] ok within off left none = record {
  may = tt;
  is_past = record { sensible = ok; within = within; spent = off; left = left };
  alike = alike_by (setting_in r) r.machine r.machine refl;
}
spent_leads_past r phase (p ∷ spent) ok within off left none =
    let s : Setting = setting_in r in
    let m : Machine = r.machine in
    let two : (c : Pass) × (m.passes ≡ c ∷ p ∷ (spent ++ passes_after s phase))
    = two_by m.passes p (spent ++ passes_after s phase) left in
    let rest : drop 2 m.passes ≡ spent ++ passes_after s phase = ap (λ (ps : List Pass). drop 2 ps) two.1 in
    let q : RunState = passed r p.phase p.number in
    let are : m.passes ≡ two.0 ∷ p ∷ drop 2 m.passes
    = two.1 ∙ ap (λ (ps : List Pass). two.0 ∷ p ∷ ps) (sym rest) in
    let first : HasNone s q.machine p = All-head (HasNone s m) p spent none in
    let later : All (HasNone s q.machine) spent = All-tail (HasNone s m) p spent none in
    let l : LeadsPast phase q spent
    = spent_leads_past q phase spent ok within (request_none s q.machine p (drop 2 m.passes) refl first) rest later in
    record {
      may = (ap (λ (ps : List Pass). slice_get ps 1) are, off, l.may);
      is_past = l.is_past;
      alike = alike_on s m q.machine (passed_over q spent).machine
          (next_pass_is_alike s m two.0 p (drop 2 m.passes) off are) l.alike;
    }

-- The passes up to the end of a phase, and those after it.
up_to_trimming : (s : Setting) (number : ℕ)
    → passes_from s Copying number ≡ passes_up_to s Trimming number ++ passes_after s Trimming
up_to_trimming s number =
    let copying : List Pass = passes_in s Copying number in
    let scraping : List Pass = if s.passes.scrapes then passes_in s Scraping 1 else [] in
    let retrying : List Pass = passes_in s Retrying 1 in
    cond_both s.passes.trims (passes_in s Trimming 1) []
    (λ (ps : List Pass). (copying ++ (ps ++ scraping ++ retrying)) ≡ ((copying ++ ps) ++ (scraping ++ retrying)))
    (λ on. sym (append_assoc copying (passes_in s Trimming 1) (scraping ++ retrying)))
    (λ off. sym (append_assoc copying [] (scraping ++ retrying)))

up_to : (s : Setting) (phase : Phase) (number : ℕ) → (phase ≡ Retrying → ⊥)
    → passes_from s Copying number ≡ passes_up_to s phase number ++ passes_after s phase
up_to s Copying number other = refl
up_to s Trimming number other = up_to_trimming s number
up_to s Scraping number other =
    up_to_trimming s number
    ∙ sym (append_assoc (passes_up_to s Trimming number) (if s.passes.scrapes then passes_in s Scraping 1 else [])
    (passes_in s Retrying 1))
up_to s Retrying number other = absurd (other refl)

-- they begin with the one of copying
begins_with : (s : Setting) (number : ℕ) (more : List Pass) → number ≤ copying_passes
    → passes_in s Copying number ++ more ≡ numbered Copying number ∷ drop 1 (passes_in s Copying number ++ more)
begins_with s number more few =
    let some : 6 - number ≡ suc (5 - number) = omega (arith, few) in
    subst (λ (n : ℕ). (map (numbered Copying) (range_with_len number n) ++ more)
    ≡ (numbered Copying number ∷ drop 1 (map (numbered Copying) (range_with_len number n) ++ more))) (sym some) refl

begins_up_to : (s : Setting) (phase : Phase) (number : ℕ) → (phase ≡ Retrying → ⊥) → number ≤ copying_passes
    → passes_up_to s phase number ≡ numbered Copying number ∷ drop 1 (passes_up_to s phase number)
begins_up_to s Copying number other few =
    subst (λ (ps : List Pass). ps ≡ numbered Copying number ∷ drop 1 ps) (append-nil (passes_in s Copying number))
    (begins_with s number [] few)
begins_up_to s Trimming number other few =
    begins_with s number (if s.passes.trims then passes_in s Trimming 1 else []) few
begins_up_to s Scraping number other few =
    let trimming : List Pass = if s.passes.trims then passes_in s Trimming 1 else [] in
    let scraping : List Pass = if s.passes.scrapes then passes_in s Scraping 1 else [] in
    subst (λ (ps : List Pass). ps ≡ numbered Copying number ∷ drop 1 ps)
    (sym (append_assoc (passes_in s Copying number) trimming scraping))
    (begins_with s number (trimming ++ scraping) few)
begins_up_to s Retrying number other few = absurd (other refl)

-- none of them has a position to ask for
all_in : (P : Pass → Type 0) (phase : Phase) (number few : ℕ) → ((n : ℕ) → P (numbered phase n))
    → All P (map (numbered phase) (range_with_len number few))
all_in P phase number zero each = All-nil P
all_in P phase number (suc few) each =
    All-cons P (numbered phase number) (map (numbered phase) (range_with_len (number + 1) few)) (each number)
    (all_in P phase (number + 1) few each)

none_copies : (r : RunState) (number : ℕ) → IsGone NonTried r
    → All (HasNone (setting_in r) r.machine) (passes_in (setting_in r) Copying number)
none_copies r number gone =
    all_in (HasNone (setting_in r) r.machine) Copying number (copying_passes + 1 - number) (λ n. gone)

none_trims : (r : RunState) (number : ℕ) → IsTrimmed r
    → All (HasNone (setting_in r) r.machine) (passes_up_to (setting_in r) Trimming number)
none_trims r number known =
    let s : Setting = setting_in r in
    let P : Pass → Type 0 = HasNone s r.machine in
    All-append P (passes_in s Copying number) (if s.passes.trims then passes_in s Trimming 1 else [])
    (none_copies r number known.tried)
    (cond_both s.passes.trims (passes_in s Trimming 1) [] (All P)
    (λ on. all_in P Trimming 1 1 (λ n. known.trimmed on)) (λ off. All-nil P))

none_up_to : (r : RunState) (phase : Phase) (number : ℕ) → (phase ≡ Retrying → ⊥) → Known (known_past phase) r
    → All (HasNone (setting_in r) r.machine) (passes_up_to (setting_in r) phase number)
none_up_to r Copying number other known = none_copies r number known
none_up_to r Trimming number other known = none_trims r number known
none_up_to r Scraping number other known =
    let s : Setting = setting_in r in
    let P : Pass → Type 0 = HasNone s r.machine in
    All-append P (passes_up_to s Trimming number) (if s.passes.scrapes then passes_in s Scraping 1 else [])
    (none_trims r number known.trimmed)
    (cond_both s.passes.scrapes (passes_in s Scraping 1) [] (All P)
    (λ on. all_in P Scraping 1 1 (λ n. known.scraped on)) (λ off. All-nil P))
none_up_to r Retrying number other known = absurd (other refl)

pub typed_leads_past : TypedLeadsPast
typed_leads_past r phase other ok within few passes known =
    let s : Setting = setting_in r in
    let m : Machine = r.machine in
    let front : List Pass = passes_up_to s phase r.pass in
    let are : front ≡ numbered Copying r.pass ∷ drop 1 front = begins_up_to s phase r.pass other few in
    let all : m.passes ≡ numbered Copying r.pass ∷ (drop 1 front ++ passes_after s phase)
    = passes ∙ up_to s phase r.pass other ∙ ap (λ (ps : List Pass). ps ++ passes_after s phase) are in
    let none : All (HasNone s m) front = none_up_to r phase r.pass other known in
    let first : HasNone s m (numbered Copying r.pass)
    = All-head (HasNone s m) (numbered Copying r.pass) (drop 1 front) (subst (All (HasNone s m)) are none) in
    spent_leads_past r phase (drop 1 front) ok within
    (request_none s m (numbered Copying r.pass) (drop 1 front ++ passes_after s phase) all first)
    (ap (λ (ps : List Pass). drop 1 ps) all) (All-drop (HasNone s m) 1 front none)

-- a pass doesn't come again
comes_once : (qs : List Pass) (p : Pass) (ps : List Pass) → qs ≡ p ∷ ps → AreOrdered qs → Contains (drop 1 qs) p → ⊥
comes_once qs p ps is ordered has =
    let order : AreOrdered (p ∷ ps) = subst AreOrdered is ordered in
    never_follows p (All-contains (Follows p) ps p order.0
    (subst (λ (rest : List Pass). Contains rest p) (ap (λ (rs : List Pass). drop 1 rs) is) has))

still_ahead : (s : Setting) (m : Machine) (p : Pass) (ps : List Pass) (x : ℕ) → m.passes ≡ p ∷ ps → AreOrdered m.passes
    → is_trimming m ≡ false → StillComes s m p x → is_ahead (search_of s m) x ≡ true
still_ahead s m p ps x is ordered off (Now rest at ahead) = ahead off
still_ahead s m p ps x is ordered off (Later has) = absurd (comes_once m.passes p ps is ordered has)

pub under_way_may_copy : UnderWayMayCopy
under_way_may_copy r ok within phase few passes w =
    let s : Setting = setting_in r in
    let m : Machine = r.machine in
    let first : (ps : List Pass) × (passes_from s Copying r.pass ≡ numbered Copying r.pass ∷ ps) = first_of s r.pass few in
    let are : m.passes ≡ numbered Copying r.pass ∷ first.0 = passes ∙ first.1 in
    let here : pass_of m ≡ numbered Copying r.pass
    = ap (λ (ps : List Pass). slice_index_or ps 0 (numbered Copying 1)) are in
    let off : is_trimming m ≡ false = ap (λ (p : Pass). trims p.phase) here in
    record {
      sensible = ok;
      within = within;
      phase = phase;
      few = few;
      passes = passes;
      lead = w.order.lead off;
      last = λ last. record {
        ahead = λ x wanted.
            let has : Has m.map NonTried x
            = subst (λ (p : Pass). Has m.map (taken p.phase) x) here (wanted_taken s m x wanted) in
            let five : m.passes ≡ numbered Copying copying_passes ∷ first.0
            = are ∙ ap (λ (n : ℕ). numbered Copying n ∷ first.0) last in
            still_ahead s m (numbered Copying copying_passes) first.0 x five
            (subst AreOrdered (sym passes) (ordered_from s Copying r.pass)) off
            (w.tried x (wanted_live s m x wanted) has);
      };
    }

-- what is non-tried, the last pass of copying still comes to
last_comes : (r : RunState) (x : ℕ) → MayCopy r → is_live (setting_in r) r.machine x ≡ true
    → Has r.machine.map NonTried x → StillComes (setting_in r) r.machine (numbered Copying copying_passes) x
last_comes r x c live has =
    let s : Setting = setting_in r in
    let m : Machine = r.machine in
    let p : Pass = numbered Copying copying_passes in
    ⊎_elim
    (λ (less : r.pass < copying_passes).
    Later (subst (λ (ps : List Pass). Contains (drop 1 ps) p) (sym c.passes) (has_last s r.pass less)))
    (λ (ge : copying_passes ≤ r.pass).
    let last : r.pass ≡ copying_passes = omega (arith, c.few, ge) in
    let are : m.passes ≡ p ∷ passes_after s Copying = c.passes ∙ ap (passes_from s Copying) last in
    Now (passes_after s Copying) are (λ off. (c.last last).ahead x (wanted_here r x c live has)))
    (cases_lt r.pass copying_passes)

past_comes : (r : RunState) (p : Pass) (x : ℕ) → MayCopy r → Contains (passes_after (setting_in r) Copying) p
    → StillComes (setting_in r) r.machine p x
past_comes r p x c has =
    Later (subst (λ (ps : List Pass). Contains (drop 1 ps) p) (sym c.passes) (after_contains (setting_in r) r.pass p c.few has))

pub copying_is_under_way : CopyingIsUnderWay
copying_is_under_way r c = record {
  order = order_lead (setting_in r) r.machine c.lead;
  first = r.pass;
  past = [];
  passes = c.passes;
  tried = λ x live has. last_comes r x c live has;
  trimmed = λ on x live has. past_comes r (numbered Trimming 1) x c (has_trimming (setting_in r) on);
  scraped = λ on x live has. past_comes r (numbered Scraping 1) x c (has_scraping (setting_in r) on);
}

-- What is left for the phases after one is to come, and nothing is for those up to it.
has_scraping_next : (s : Setting) → s.passes.scrapes ≡ true → Contains (passes_after s Trimming) (numbered Scraping 1)
has_scraping_next s on =
    Contains-append_left (if s.passes.scrapes then passes_in s Scraping 1 else []) (passes_in s Retrying 1) (numbered Scraping 1)
    (cond_both s.passes.scrapes (passes_in s Scraping 1) [] (λ (ps : List Pass). Contains ps (numbered Scraping 1))
    (λ is. (0, omega arith, refl)) (λ off. absurd (true≢false (sym on ∙ off))))

tried_past : (r : RunState) (phase : Phase) → Known (known_past phase) r → IsGone NonTried r
tried_past r Copying known = known
tried_past r Trimming known = known.tried
tried_past r Scraping known = known.trimmed.tried
tried_past r Retrying known = known.scraped.trimmed.tried

trimmed_past : (r : RunState) (phase : Phase) (x : ℕ) → IsPast phase r → Known (known_past phase) r
    → (setting_in r).passes.trims ≡ true → is_live (setting_in r) r.machine x ≡ true → Has r.machine.map NonTrimmed x
    → StillComes (setting_in r) r.machine (numbered Trimming 1) x
trimmed_past r Copying x b known on live has =
    Later (subst (λ (ps : List Pass). Contains ps (numbered Trimming 1)) (sym b.left) (has_trimming (setting_in r) on))
trimmed_past r Trimming x b known on live has =
    absurd (known.trimmed on x live has)
trimmed_past r Scraping x b known on live has =
    absurd (known.trimmed.trimmed on x live has)
trimmed_past r Retrying x b known on live has =
    absurd (known.scraped.trimmed.trimmed on x live has)

scraped_past : (r : RunState) (phase : Phase) (x : ℕ) → IsPast phase r → Known (known_past phase) r
    → (setting_in r).passes.scrapes ≡ true → is_live (setting_in r) r.machine x ≡ true → Has r.machine.map NonScraped x
    → StillComes (setting_in r) r.machine (numbered Scraping 1) x
scraped_past r Copying x b known on live has =
    Later (subst (λ (ps : List Pass). Contains ps (numbered Scraping 1)) (sym b.left) (has_scraping (setting_in r) on))
scraped_past r Trimming x b known on live has =
    Later (subst (λ (ps : List Pass). Contains ps (numbered Scraping 1)) (sym b.left) (has_scraping_next (setting_in r) on))
scraped_past r Scraping x b known on live has =
    absurd (known.scraped on x live has)
scraped_past r Retrying x b known on live has =
    absurd (known.scraped.scraped on x live has)

pub past_is_under_way : PastIsUnderWay
past_is_under_way r phase first past order passes b known = record {
  order = order;
  first = first;
  past = past;
  passes = passes;
  tried = λ x live has. absurd (tried_past r phase known x live has);
  trimmed = λ on x live has. trimmed_past r phase x b known on live has;
  scraped = λ on x live has. scraped_past r phase x b known on live has;
}
