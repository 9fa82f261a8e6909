-- What a container replies to a command that threw has a text in the table of names.
use Rattle.std.proofs.Common.{ℕ, ◌≡◌, ◌∙◌, List, [], Option, Some, None, refl, sym, subst}
use Rattle.std.specs.Prelude.{unwrap_or}
use Rattle.cdi_base.specs.declared.reply.Reply.{Reply}
use Rattle.cdi_base.specs.declared.reply.Reply.TheVariants as replies
use Rattle.cdi_ledger.specs.Ledger.{Item}
use Rattle.cdi_machine.specs.Commands.{Command, task}
use Rattle.cdi_machine.specs.Container.{given_to, refusal, reply_to}
use Rattle.cdi_machine.specs.Programs.{Given, Gave, Threw}
use Rattle.cdi_machine.specs.Runs.{Legal, Outcome, Ends, Cut, Runs}
use Rattle.cdi_machine.specs.Tables.{Tables}
use Rattle.cdi_machine.specs.World.{World, at_begin}
use Rattle.cdi_run_tables.specs.Machine.{machine_tables}
use Rattle.cdi_run_tables.specs.declared.tables.RunTables.{RunTables}
use Rattle.cdi_whole.specs.Thrown.{ThrowsWithText}
use Rattle.cdi_whole.specs.Fits.{HasText, Fits}
use Rattle.cdi_container.specs.History.{History}
use Rattle.cdi_container.specs.States.{ContainerState, AnswersCommand, CarriesOut}
use Rattle.cdi_container.specs.Thrown.{TellsName, NamesThrown}
use Rattle.cdi_container.proofs.Halted.{works_on}
use Rattle.cdi_container.proofs.Stories.{IsStory, is_story, led_to, refused_alike}

-- ---- a reply that tells an exception is that of a command which ended with it

-- what was given is no exception
gives_none : (c : Command) (w : World) (g : Given) (x : ℕ) → given_to c w g ≡ replies.Threw x → ⊥
gives_none Command.Boot w g x e = absurd (cc)
gives_none (Command.Begin r s) w g x e = absurd (cc)
gives_none (Command.End r) w g x e = absurd (cc)
gives_none (Command.Invalidate s) w g x e = absurd (cc)
gives_none (Command.Call r asked method args) w (Given.Result v) x e = absurd (cc)
gives_none (Command.Call r asked method args) w (Given.Number n) x e = absurd (cc)
gives_none (Command.Call r asked method args) w Given.Empty x e = absurd (cc)
gives_none (Command.Read r asked) w (Given.Result v) x e = absurd (cc)
gives_none (Command.Read r asked) w (Given.Number n) x e = absurd (cc)
gives_none (Command.Read r asked) w Given.Empty x e = absurd (cc)
gives_none (Command.Fire r class qualifiers v) w g x e = absurd (cc)
gives_none Command.Live w g x e = absurd (cc)
gives_none Command.Shutdown w g x e = absurd (cc)

threw : (c : Command) (o : Outcome) (w : World) (x : ℕ) → reply_to c o w ≡ replies.Threw x → o ≡ Ends (Threw x)
threw c (Ends (Gave g)) w x e = absurd (gives_none c w g x e)
threw c (Ends (Threw y)) w x e = cc
threw c (Cut cause) w x e = absurd (cc)

-- ---- texts

module _ (tables : Tables) (legal : Legal) (throws : ThrowsWithText tables legal ⊥) (fits : Fits tables legal) where
  -- a command that ends with an exception
  ended : (s t : ContainerState) (h : List Item) (c : Command) (o : Outcome) (x : ℕ) (l : IsStory tables legal s h) → refusal tables l.at c ≡ None
      → CarriesOut tables legal (Unit {0}) (task c) (at_begin s.world) o t.world → o ≡ Ends (Threw x) → HasText tables x
  ended s t h c o x l e (CarriesOut.ends r) is =
      let led = led_to tables legal l.story in
      let begun : Runs tables legal ⊥ (task c) (at_begin l.at.world) o t.world = subst (λ w. Runs tables legal ⊥ (task c) w o t.world) l.alike r in
      throws fits led.ticks led.depth led.commands l.at led.leads c e x t.world (subst (λ z. Runs tables legal ⊥ (task c) (at_begin l.at.world) z t.world) is begun)
  ended s t h c o x l e (CarriesOut.starves starved r) is = absurd (cc)

  thrown : (s t : ContainerState) (h : List Item) (c : Command) (reply : Reply) (x : ℕ) → History tables legal (Unit {0}) s h
      → AnswersCommand tables legal (Unit {0}) s c reply t → reply ≡ replies.Threw x → HasText tables x
  thrown s t h c reply x history (AnswersCommand.refuses r e is stays) told = absurd (cc)
  thrown s t h c reply x history (AnswersCommand.lacks_memory starved asks e is halts) told = absurd (cc)
  thrown s t h c reply x history (AnswersCommand.carries_out o e k halts is) told =
      let l = is_story tables legal s h history (works_on tables s c e) in
      ended s t h c o x l (sym (refused_alike tables legal s h l c) ∙ e) k (threw c o t.world x (sym is ∙ told))

-- what a table has is the text of its name
text_is : (o : Option (List ℕ)) (text : List ℕ) → o ≡ Some text → o ≡ Some (unwrap_or o [])
text_is None text e = absurd (cc)
text_is (Some found) text e = refl

pub names_thrown : (t : RunTables) (legal : Legal) → ThrowsWithText (machine_tables t) legal ⊥ → Fits (machine_tables t) legal → NamesThrown t legal
names_thrown t legal throws fits s u h history c reply a = by reply a
  where
    by : (r : Reply) → AnswersCommand (machine_tables t) legal (Unit {0}) s c r u → TellsName t.deployment.names r
    by (replies.Threw x) k =
        let text = thrown (machine_tables t) legal throws fits s u h c (replies.Threw x) x history k refl in
        text_is ((machine_tables t).text x) text.0 text.1
    by (replies.Value v) k = tt
    by replies.Done k = tt
    by (replies.Live numbers) k = tt
    by (replies.Refused r) k = tt
    by (replies.Halted cause) k = tt
