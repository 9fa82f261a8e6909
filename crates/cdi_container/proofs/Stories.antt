-- What a container has written since its start is a story of the machine, until memory runs out.
use Rattle.std.proofs.Common.{◌≡◌, ◌∙◌, ◌⊎◌, inl, inr, List, [], ◌∷◌, ◌++◌, Bool, false, Some, None, refl, sym, ap, ap₂, subst}
use Rattle.std.specs.Prelude.{ℕ, is_some}
use Rattle.cdi_base.specs.declared.reply.Cause.TheVariants as causes
use Rattle.cdi_base.specs.declared.reply.Reply.{Reply}
use Rattle.cdi_ledger.specs.Ledger.{Item, items_of}
use Rattle.cdi_ledger.specs.Stories.{Story}
use Rattle.cdi_machine.specs.Commands.{Command, task}
use Rattle.cdi_machine.specs.Container as machine
use Rattle.cdi_machine.specs.Container.{State, before_commands, idle_state, is_cut, refusal, state_after, Leads}
use Rattle.cdi_machine.specs.Runs.{Legal, Outcome, Ends, Cut, Runs}
use Rattle.cdi_machine.specs.Tables.{Tables}
use Rattle.cdi_machine.specs.World.{World, at_begin}
use Rattle.cdi_container.specs.History.{History, carried_items}
use Rattle.cdi_container.specs.States.{ContainerState, CarriesOut, AnswersCommand, machine_state, cause_of}
use Rattle.cdi_container.proofs.Halted.{works_on}

is_cut_by : (o : Outcome) → is_cut o ≡ is_some (cause_of o)
is_cut_by (Ends c) = refl
is_cut_by (Cut cause) = refl

module _ (tables : Tables) (legal : Legal) where
  -- ---- a story is told by commands

  leads_on : {s t u : State} {cs : List Command} {c : Command} {r : Reply} → Leads tables legal s cs t → machine.GivesReply tables legal t c r u → Leads tables legal s (cs ++ c ∷ []) u
  leads_on Leads.stays g = Leads.goes_on g Leads.stays
  leads_on (Leads.goes_on f more) g = Leads.goes_on f (leads_on more g)

  -- the commands that lead to a state
  pub record IsLedTo (s : State) : Type 0 where
    pub ticks : ℕ
    pub depth : ℕ
    pub commands : List Command
    pub leads : Leads tables legal (before_commands ticks depth) commands s

  pub led_to : {s : State} {h : List Item} → Story tables legal s h → IsLedTo s
  led_to (Story.begins ticks depth) = record { ticks = ticks; depth = depth; commands = []; leads = Leads.stays }
  led_to (Story.refuses c r before e) =
      let l = led_to before in
      record { ticks = l.ticks; depth = l.depth; commands = l.commands ++ c ∷ []; leads = leads_on l.leads (machine.GivesReply.refuses r e) }
  led_to (Story.goes c before e r) =
      let l = led_to before in
      record { ticks = l.ticks; depth = l.depth; commands = l.commands ++ c ∷ []; leads = leads_on l.leads (machine.GivesReply.carries_out e r) }

  -- ---- a history is a story

  -- which leads to the same state, but for the trace
  pub record IsStory (s : ContainerState) (h : List Item) : Type 0 where
    pub at : State
    pub story : Story tables legal at h
    pub alike : at_begin s.world ≡ at_begin at.world
    pub halted : is_some s.halted ≡ at.halted
    pub idle : at.busy ≡ false

  -- what is refused is told by the world at the begin
  pub refused_alike : (s : ContainerState) (h : List Item) (l : IsStory s h) (c : Command) → refusal tables (machine_state s) c ≡ refusal tables l.at c
  refused_alike s h l c =
      ap₂ (λ (b : Bool) (w : World). refusal tables (idle_state w b) c) l.halted l.alike
      ∙ ap (λ (b : Bool). refusal tables (record l.at { busy = b; shown_from = 0 }) c) (sym l.idle)

  -- what holds of what stories have written, also if memory runs out in one more command, holds of histories
  module _ (P : List Item → Type 0) (holds : (s : State) (h : List Item) → Story tables legal s h → P h)
      (short : (s : State) (h : List Item) (c : Command) (o : Outcome) (v : World) → Story tables legal s h → refusal tables s c ≡ None
      → (r : Runs tables legal (Unit {0}) (task c) (at_begin s.world) o v) → P (items_of h r)) where
    -- or memory ran out, and no command is carried out any more
    abbrev pub Keeps : ContainerState → List Item → Type 0
    Keeps s h = IsStory s h ⊎ (P h × (s.halted ≡ Some causes.Memory))

    still : (s t : ContainerState) (h : List Item) → at_begin t.world ≡ at_begin s.world → t.halted ≡ s.halted → Keeps s h → Keeps t h
    still s t h w e (inl l) =
        inl (record { at = l.at; story = l.story; alike = w ∙ l.alike; halted = ap is_some e ∙ l.halted; idle = l.idle })
    still s t h w e (inr k) = inr (k.0, e ∙ k.1)

    -- from the world at the begin on
    longer : (c : Command) (m : State) (v : World) (h : List Item) (o : Outcome) → Story tables legal m h → refusal tables m c ≡ None → (u : World) → at_begin m.world ≡ u
        → (r : Runs tables legal ⊥ (task c) u o v) → Story tables legal (state_after o v) (items_of h r)
    longer c m v h o l q u e =
        subst (λ x. (r : Runs tables legal ⊥ (task c) x o v) → Story tables legal (state_after o v) (items_of h r)) e (λ r. Story.goes c l q r)

    shortened : (c : Command) (m : State) (v : World) (h : List Item) (o : Outcome) → Story tables legal m h → refusal tables m c ≡ None → (u : World) → at_begin m.world ≡ u
        → (r : Runs tables legal (Unit {0}) (task c) u o v) → P (items_of h r)
    shortened c m v h o l q u e =
        subst (λ x. (r : Runs tables legal (Unit {0}) (task c) x o v) → P (items_of h r)) e (λ r. short m h c o v l q r)

    carried : (c : Command) (s t : ContainerState) (h : List Item) (o : Outcome) (l : IsStory s h) → refusal tables l.at c ≡ None → t.halted ≡ cause_of o
        → (k : CarriesOut tables legal (Unit {0}) (task c) (at_begin s.world) o t.world) → Keeps t (carried_items h k)
    carried c s t h o l q e (CarriesOut.ends r) =
        inl (record {
          at = state_after o t.world;
          story = longer c l.at t.world h o l.story q (at_begin s.world) (sym l.alike) r;
          alike = refl;
          halted = ap is_some e ∙ sym (is_cut_by o);
          idle = refl;
        })
    carried c s t h o l q e (CarriesOut.starves starved r) =
        inr (shortened c l.at t.world h (Cut causes.Memory) l.story q (at_begin s.world) (sym l.alike) r, e)

    goes_on : (c : Command) (s t : ContainerState) (h : List Item) (o : Outcome) → refusal tables (machine_state s) c ≡ None → Keeps s h → t.halted ≡ cause_of o
        → (k : CarriesOut tables legal (Unit {0}) (task c) (at_begin s.world) o t.world) → Keeps t (carried_items h k)
    goes_on c s t h o e (inl l) halts k = carried c s t h o l (sym (refused_alike s h l c) ∙ e) halts k
    goes_on c s t h o e (inr stopped) halts k = let none = works_on tables s c e in absurd (cc (stopped.1, none))

    kept : (s : ContainerState) (h : List Item) → Keeps s h → P h
    kept s h (inl l) = holds l.at h l.story
    kept s h (inr k) = k.0

    pub keeps : (s : ContainerState) (h : List Item) → History tables legal (Unit {0}) s h → Keeps s h
    keeps _ _ (History.begins ticks depth) =
        inl (record { at = before_commands ticks depth; story = Story.begins ticks depth; alike = refl; halted = refl; idle = refl })
    keeps t _ (History.answers {s = s} {h = h} before (AnswersCommand.refuses r e is stays)) =
        still s t h (ap (λ (x : ContainerState). at_begin x.world) stays) (ap (λ (x : ContainerState). x.halted) stays) (keeps s h before)
    keeps t _ (History.answers {s = s} {h = h} {c = c} before (AnswersCommand.carries_out o e k halts is)) =
        goes_on c s t h o e (keeps s h before) halts k
    keeps t _ (History.answers {s = s} {h = h} before (AnswersCommand.lacks_memory starved asks e is halts)) =
        inr (kept s h (keeps s h before), ap (λ (x : ContainerState). x.halted) halts)
    keeps _ _ (History.refuses_line {s = s} {h = h} before) = still s _ h refl refl (keeps s h before)

    pub holds_throughout : (s : ContainerState) (h : List Item) → History tables legal (Unit {0}) s h → P h
    holds_throughout s h history = kept s h (keeps s h history)

  -- unless it is halted
  working : (s : ContainerState) (h : List Item) → Keeps (λ h. Unit {0}) (λ s h l. tt) (λ s h c o v l e r. tt) s h → s.halted ≡ None → IsStory s h
  working s h (inl l) e = l
  working s h (inr k) e = absurd (cc (k.1, e))

  pub is_story : (s : ContainerState) (h : List Item) → History tables legal (Unit {0}) s h → s.halted ≡ None → IsStory s h
  is_story s h history = working s h (keeps (λ h. Unit {0}) (λ s h l. tt) (λ s h c o v l e r. tt) s h history)
