-- A reply that tells an exception is that of a command which ended with it.
use Rattle.std.proofs.Common.{ℕ, ◌≡◌, List, refl, subst}
use Rattle.cdi_base.specs.declared.reply.Reply.{Reply}
use Rattle.cdi_base.specs.declared.reply.Reply.TheVariants as replies
use Rattle.cdi_machine.specs.Commands.{Command, task}
use Rattle.cdi_machine.specs.Container.{State, before_commands, given_to, reply_to, GivesReply, Leads}
use Rattle.cdi_machine.specs.Programs.{Given, Gave, Threw}
use Rattle.cdi_machine.specs.Runs.{Legal, Outcome, Ends, Cut, Runs}
use Rattle.cdi_machine.specs.Tables.{Tables}
use Rattle.cdi_machine.specs.World.{World, at_begin}
use Rattle.cdi_whole.proofs.Presence.{throws_with_text}
use Rattle.cdi_whole.specs.Fits.{Fits, HasText}
use Rattle.cdi_whole.specs.Replies.{AnswersWithText}

-- what was given is no exception
gives_none : (c : Command) (w : World) (g : Given) (x : ℕ) → given_to c w g ≡ replies.Threw x → ⊥
gives_none Command.Boot w g x e = absurd (cc)
gives_none (Command.Begin r s) w g x e = absurd (cc)
gives_none (Command.End r) w g x e = absurd (cc)
gives_none (Command.Invalidate s) w g x e = absurd (cc)
gives_none (Command.Call r asked method args) w (Given.Result v) x e = absurd (cc)
gives_none (Command.Call r asked method args) w (Given.Number n) x e = absurd (cc)
gives_none (Command.Call r asked method args) w Given.Empty x e = absurd (cc)
gives_none (Command.Read r asked) w (Given.Result v) x e = absurd (cc)
gives_none (Command.Read r asked) w (Given.Number n) x e = absurd (cc)
gives_none (Command.Read r asked) w Given.Empty x e = absurd (cc)
gives_none (Command.Fire r class qualifiers v) w g x e = absurd (cc)
gives_none Command.Live w g x e = absurd (cc)
gives_none Command.Shutdown w g x e = absurd (cc)

threw : (c : Command) (o : Outcome) (w : World) (x : ℕ) → reply_to c o w ≡ replies.Threw x → o ≡ Ends (Threw x)
threw c (Ends (Gave g)) w x e = absurd (gives_none c w g x e)
threw c (Ends (Threw y)) w x e = cc
threw c (Cut cause) w x e = absurd (cc)

pub answers_with_text : (tables : Tables) (legal : Legal) → AnswersWithText tables legal
answers_with_text tables legal fits ticks depth cs s leads c x t answer = by (replies.Threw x) t refl answer
  where
    by : (reply : Reply) (t : State) → reply ≡ replies.Threw x → GivesReply tables legal s c reply t → HasText tables x
    by _ _ is (GivesReply.refuses r e) = absurd (cc)
    by _ _ is (GivesReply.carries_out {o = o} {v = v} e r) =
        throws_with_text tables legal ⊥ fits ticks depth cs s leads c e x v
        (subst (λ z. Runs tables legal ⊥ (task c) (at_begin s.world) z v) (threw c o v x is) r)
