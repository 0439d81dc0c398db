-- What a text ends with that is put under OUT.
use Rattle.std.proofs.Common.{◌≡◌, ℕ, Bool, true, false, List, [], ◌++◌, Option, Some, None, refl, sym, ◌∙◌, ap, ap₂, inl, inr, subst, append_assoc, append-nil}
use Rattle.std.specs.Prelude.{IfSome, MatchBool, option_map}
use Rattle.std.specs.Borrow.{Bor}
use Rattle.thy_block.specs.declared.outside.PutError.{PutError}
use Rattle.thy_block.specs.Outside.{Stock, Stream}
use Rattle.thy_isa.specs.OnBlocks.{setting_for}
use Rattle.thy_isa.specs.Step.{State, Setting}
use Rattle.thy_computer.specs.Origin.{setting_of}
use Rattle.thy_text.specs.declared.closing.Closing.TheVariants.{Memory as ClosingMemory}
use Rattle.thy_text.specs.Closings.{closing_of}
use Rattle.thy_base.specs.declared.arguments.words.Command.{Command}
use Rattle.thy_base.specs.Settings.{IsInRange, order_of, settings_of}
use Rattle.thy_outcome.specs.declared.answer.Answer.{Answer}
use Rattle.thy_outcome.specs.declared.refusal.Refusal.{Refusal}
use Rattle.thy_outcome.specs.Answering.{Around, NvmOf, Outside, Closes, around, report_of_refusal}
use Rattle.thy_outcome.specs.Machines.{Choice}
use Rattle.thy_outcome.specs.Saving.{IsPut}
use Rattle.thy_cli.specs.Watching.{ClaimSeen}
use Rattle.thy_observe.specs.declared.watch.Watch.{Watch}
use Rattle.thy_observe.specs.Watched.{IsWatch, HasLast}
use Rattle.observe.specs.declared.beginning.Begun.{Begun}
use Rattle.observe.specs.declared.options.Options.{Options}
use Rattle.observe.specs.Beginning.{IsBegunBy, IsBegunOf, IsProgramOf, IsUnreadOf, origin_of}
use Rattle.observe.specs.declared.head.Asked.{Asked}
use Rattle.observe.specs.CountText.{HasWhole, NvmCounts, wear_part}
use Rattle.observe.specs.HeadText.{IsHead, asked_by}
use Rattle.observe.specs.Observing.{AreSections, HasTextOf, IsAskedFor, IsLacking, IsObserved, ReportsOut, IsUnread, is_refused_by, was_begun}
use Rattle.observe.specs.Sections.{HasSections, HasText, IsText, IsTextOf, setting_by}
use Rattle.observe.specs.Wanting.{asks, counts}

-- what is asked for belongs to the program which was asked for
text-of : (options : Options) (words : List (List ℕ)) (c : Command) (shelf : Stock) (b : Begun) (w : Watch) (section : List ℕ)
    → IsTextOf options b w.changes section → IsAskedFor words c → IsBegunBy (order_of c) shelf b → HasTextOf options words shelf w section
text-of options words c shelf b w section is asked by =
    let program : IsProgramOf (order_of c) shelf = record { source = by.source; job = by.job; runs = by.runs; program = by.begun.program } in
    let setting : setting_by b ≡ setting_of (origin_of program) = ap₂ setting_for by.begun.geometry by.begun.input in
    record {
      order = order_of c;
      asked = asked.asked;
      program = program;
      exact = λ seen seeing.
          subst (λ (g : Setting). IsText options g (origin_of program).start seen section) setting
          (subst (λ (s : State). IsText options (setting_by b) s seen section) by.begun.state (is seen seeing.1));
    }

-- a text is its head, and what is asked for
pub record Ends (options : Options) (words : List (List ℕ)) (shelf : Stock) (w : Watch) (head whole : List ℕ) : Type 0 where
  pub section : List ℕ
  pub splits : whole ≡ head ++ section
  pub sections : AreSections options words shelf w section

ends-with : (options : Options) (words : List (List ℕ)) (shelf : Stock) (command : Option Command) (b : Begun) (w : Watch) (section : List ℕ)
    → IfSome command (IsAskedFor words) → IsBegunOf (option_map order_of command) shelf b → IsTextOf options b w.changes section
    → HasTextOf options words shelf w section
ends-with options words shelf None b w section asked by is = absurd by
ends-with options words shelf (Some c) b w section asked by is = text-of options words c shelf b w section is asked by

pub Ends-sections : (options : Options) (words : List (List ℕ)) (shelf : Stock) (command : Option Command) (begun : Option Begun) (w : Watch) (head whole : List ℕ)
    → IfSome command (IsAskedFor words) → IfSome begun (IsBegunOf (option_map order_of command) shelf)
    → HasSections options begun w.changes head whole → Ends options words shelf w head whole
Ends-sections options words shelf command begun w head whole asked by sections = by_wish (asks options) refl begun by sections
  where
    by_wish : (wish : Bool) → asks options ≡ wish → (o : Option Begun) → IfSome o (IsBegunOf (option_map order_of command) shelf)
        → MatchBool wish (HasText options o w.changes head whole) (whole ≡ head) → Ends options words shelf w head whole
    by_wish false is o by same = record {
      section = [];
      splits = same ∙ sym (append-nil head);
      sections = subst (λ (p : Bool). MatchBool p (HasTextOf options words shelf w []) (◌≡◌ {A = List ℕ} [] [])) (sym is) refl;
    }
    by_wish true is None by h = absurd (let both : None ≡ Some h.b = h.is_begun in cc)
    by_wish true is (Some b) by h =
        let same : h.b ≡ b = cc in
        let section : List ℕ = h.goes_on.0 in
        record {
          section = section;
          splits = h.goes_on.1;
          sections = subst (λ (p : Bool). MatchBool p (HasTextOf options words shelf w section) (section ≡ [])) (sym is)
              (ends-with options words shelf command b w section asked by
              (subst (λ (x : Begun). IsTextOf options x w.changes section) same h.goes_on.2));
        }

-- ---- commands and orders

-- a command that is lent is the same order
pub lent-order : (r : Option (Bor Command)) (command : Option Command) → option_map (λ (c : Bor Command). c.now) r ≡ command
    → option_map (λ (c : Bor Command). order_of c.now) r ≡ option_map order_of command
lent-order None command same = ap (option_map order_of) same
lent-order (Some c) command same = ap (option_map order_of) same

-- the numbers of a command that is lent are in range
pub lent-in-range : (words : List (List ℕ)) (r : Option (Bor Command)) (command : Option Command) → option_map (λ (c : Bor Command). c.now) r ≡ command
    → IfSome command (IsAskedFor words) → IfSome r (λ (c : Bor Command). IsInRange (order_of c.now))
lent-in-range words None command same asked = tt
lent-in-range words (Some c) command same asked = (subst (λ (o : Option Command). IfSome o (IsAskedFor words)) (sym same) asked).in_range

-- if a run has no program, the order which was asked for has none, for the same reason
pub Unread-asked : (options : Options) (words : List (List ℕ)) (command : Option Command) (why : Refusal) (before after : Outside) (status : ℕ)
    → asks options ≡ true → IfSome command (IsAskedFor words) → IsUnreadOf (option_map order_of command) before.shelf after.shelf why
    → status ≡ (report_of_refusal why).0 → after.shelf.held ≡ before.shelf.held → after.device ≡ before.device → after.terminal ≡ before.terminal
    → Closes (report_of_refusal why).1 before.report after.report → IsUnread options words before after status
Unread-asked options words None why before after status wanted asked due is held device terminal closes = absurd due
Unread-asked options words (Some c) why before after status wanted asked due is held device terminal closes = record {
  wanted = wanted;
  order = order_of c;
  asked = asked.asked;
  why = why;
  due = due;
  is_status = is;
  held = held;
  device = device;
  terminal = terminal;
  closes = closes;
}

-- ---- what is reported if there is no text

-- nothing, if nothing was to be counted
pub IsLacking-nothing : (o : Options) (old new : Stream) (answered status : ℕ) → counts o ≡ false → new ≡ old → status ≡ answered
    → IsLacking o old new answered status
IsLacking-nothing o old new answered status none same is =
    subst (λ (b : Bool). MatchBool b (Closes (closing_of ClosingMemory) old new × (status ≡ 9)) ((new ≡ old) × (status ≡ answered))) (sym none) (same, is)

-- that memory ran out, if something was
pub IsLacking-memory : (o : Options) (old new : Stream) (answered status : ℕ) → counts o ≡ true → Closes (closing_of ClosingMemory) old new → status ≡ 9
    → IsLacking o old new answered status
IsLacking-memory o old new answered status some closes is =
    subst (λ (b : Bool). MatchBool b (Closes (closing_of ClosingMemory) old new × (status ≡ 9)) ((new ≡ old) × (status ≡ answered))) (sym some) (closes, is)

-- ---- the shelf after a program was read from it

pub IsObserved-same : {N : Type 0} (c : Choice) (d : NvmOf N) (counted_by : N → NvmCounts) (options : Options) (out : List ℕ) (words : List (List ℕ)) (old middle : Stock)
    (nvm : N) (terminal report : Stream) (after : Around N) (status : ℕ)
    → middle ≡ old → IsObserved c d counted_by options out words (around middle nvm terminal report) after status
    → IsObserved c d counted_by options out words (around old nvm terminal report) after status
IsObserved-same c d counted_by options out words old middle nvm terminal report after status same h =
    subst (λ (s : Stock). IsObserved c d counted_by options out words (around s nvm terminal report) after status) same h

-- a call that leaves OUT as it was, as no run was begun
pub IsObserved-left : {N : Type 0} (c : Choice) (d : NvmOf N) (counted_by : N → NvmCounts) (options : Options) (out : List ℕ) (words : List (List ℕ)) (old middle : Stock)
    (nvm : N) (terminal report : Stream) (after : Around N) (a : Answer) (w : Watch)
    → middle ≡ old → is_refused_by options out (settings_of words) ≡ false → was_begun a ≡ false
    → ClaimSeen c d IsWatch HasLast words (around middle nvm terminal report) after a w
    → IsObserved c d counted_by options out words (around old nvm terminal report) after a.status
IsObserved-left c d counted_by options out words old middle nvm terminal report after a w same free none claim =
    IsObserved-same c d counted_by options out words old middle nvm terminal report after a.status same (record {
      free = free;
      middle = after;
      answer = a;
      watch = w;
      claim = claim;
      ends = inl (none, refl, refl);
    })

-- a call without a text, as memory ran out
pub IsObserved-lacks : {N : Type 0} (c : Choice) (d : NvmOf N) (counted_by : N → NvmCounts) (options : Options) (out : List ℕ) (words : List (List ℕ)) (old middle shelf : Stock)
    (first nvm : N) (terminal shown report reported last : Stream) (a : Answer) (w : Watch) (status : ℕ)
    → middle ≡ old → is_refused_by options out (settings_of words) ≡ false → was_begun a ≡ true
    → ClaimSeen c d IsWatch HasLast words (around middle first terminal report) (around shelf nvm shown reported) a w
    → IsLacking options reported last a.status status
    → IsObserved c d counted_by options out words (around old first terminal report) (around shelf nvm shown last) status
IsObserved-lacks c d counted_by options out words old middle shelf first nvm terminal shown report reported last a w status same free begun claim lacking =
    IsObserved-same c d counted_by options out words old middle first terminal report (around shelf nvm shown last) status same (record {
      free = free;
      middle = around shelf nvm shown reported;
      answer = a;
      watch = w;
      claim = claim;
      ends = inr (inl (record { begun = begun; shelf = refl; nvm = refl; terminal = refl; is_reported = lacking }));
    })

-- a call with a text, which was put or could not be
pub IsObserved-puts : {N : Type 0} (c : Choice) (d : NvmOf N) (counted_by : N → NvmCounts) (options : Options) (out : List ℕ) (words : List (List ℕ)) (old middle shelf put : Stock)
    (first nvm : N) (terminal shown report reported last : Stream) (a : Answer) (w : Watch) (command : Option Command) (known : Asked) (begun : Option Begun)
    (whole : List ℕ) (why : Option PutError) (status : ℕ)
    → middle ≡ old → is_refused_by options out (settings_of words) ≡ false → was_begun a ≡ true
    → ClaimSeen c d IsWatch HasLast words (around middle first terminal report) (around shelf nvm shown reported) a w
    → IfSome command (IsAskedFor words) → known ≡ asked_by (settings_of words) → IfSome begun (IsBegunOf (option_map order_of command) middle)
    → HasWhole known a.events.last options begun w (counted_by nvm) whole
    → IsPut out whole shelf put why → ReportsOut out why reported last a.status status
    → IsObserved c d counted_by options out words (around old first terminal report) (around put nvm shown last) status
IsObserved-puts c d counted_by options out words old middle shelf put first nvm terminal shown report reported last a w command known begun whole why status same free ran claim asked is_known by has is reports =
    let ends = Ends-sections options words middle command begun w has.head has.text asked by has.sections in
    let rest : List ℕ = has.counted ++ wear_part options.wear (counted_by nvm).wear in
    let text : whole ≡ has.head ++ (ends.section ++ rest) =
    has.splits ∙ ap (λ (t : List ℕ). t ++ rest) ends.splits ∙ append_assoc has.head ends.section rest in
    IsObserved-same c d counted_by options out words old middle first terminal report (around put nvm shown last) status same (record {
      free = free;
      middle = around shelf nvm shown reported;
      answer = a;
      watch = w;
      claim = claim;
      ends = inr (inr (record {
        begun = ran;
        head = has.head;
        is_head = subst (λ (x : Asked). IsHead x w.tally (counted_by nvm).calls a.events.last has.head) is_known has.is_head;
        section = ends.section;
        sections = ends.sections;
        counted = has.counted;
        counts = has.counts;
        why = why;
        put = subst (λ (t : List ℕ). IsPut out t shelf put why) text is;
        nvm = refl;
        terminal = refl;
        is_reported = reports;
      }));
    })
