-- What the input, the files, the clock and the console of a run tell, as one value.
-- For contracts and proofs: no promise uses it.
use Rattle.std.specs.Prelude.{◌≡◌, true}
use Rattle.faulty_source.specs.declared.source.Source.{Ghosts as SourceGhosts}
use Rattle.faulty_source.specs.SourceChanges.{Stays as SourceStays}
use Rattle.crash_site.specs.declared.site.Site.{Ghosts as SiteGhosts}
use Rattle.crash_site.specs.SiteChanges.{Stays as SiteStays}
use Rattle.rescue_console.specs.declared.clock.Clock.{Ghosts as ClockGhosts}
use Rattle.rescue_console.specs.declared.console.Console.{Ghosts as ConsoleGhosts}
use Rattle.rescue_console.specs.ClockState.{Keeps as ClockKeeps}
use Rattle.rescue_rules.specs.Across.{Across, across}
use Rattle.rescue_core.specs.declared.outside.Outside.{Outside}

-- what stays of the objects while nothing is printed, and no draft is begun or ended
pub record SilentlyStay (o : Across) : Type 0 where
  pub source : SourceStays o.source o.source'
  pub site : SiteStays o.site o.site'
  pub clock : ClockKeeps o.clock o.clock'
  pub console : o.console' ≡ o.console

module _ {S D K C : Type 0} where
  -- what they told before something was done, and after it
  abbrev pub between : SourceGhosts S → SiteGhosts D → ClockGhosts K → ConsoleGhosts C → (old new : Outside S D K C)
      → Across
  between s d k c old new = across (s.state old.source.now) (s.state new.source.now) (d.state old.site.now)
      (d.state new.site.now) (k.state old.clock.now) (k.state new.clock.now) (c.state old.console.now)
      (c.state new.console.now)

  -- the input and the image are open
  pub record IsOpen (s : SourceGhosts S) (d : SiteGhosts D) (o : Outside S D K C) : Type 0 where
    pub input : (s.state o.source.now).is_open ≡ true
    pub image : (d.state o.site.now).is_open ≡ true

  -- the objects are the same
  pub record AreSame (old new : Outside S D K C) : Type 0 where
    pub source : new.source.ghost_name ≡ old.source.ghost_name
    pub site : new.site.ghost_name ≡ old.site.ghost_name
    pub clock : new.clock.ghost_name ≡ old.clock.ghost_name
    pub console : new.console.ghost_name ≡ old.console.ghost_name
