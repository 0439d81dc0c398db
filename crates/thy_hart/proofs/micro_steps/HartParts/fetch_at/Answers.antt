use Rattle.std.proofs.Common.{◌≡◌, refl, sym, ◌∙◌, ap, subst}
use Rattle.thy_block.specs.Geometry.{program_size}
use Rattle.thy_isa.specs.declared.state.Effect.{Effect}
use Rattle.thy_isa.specs.Effects.{word_effect}
use Rattle.thy_isa.specs.Step.{within}
use Rattle.thy_isa.proofs.AccessLaws.{within-is}
use Rattle.thy_hart.specs.HartState.{HartState, secured, IsSoundHart}
use Rattle.thy_hart.specs.InHand.{hart_state_of}
use Rattle.thy_hart.specs.Outcomes.{begun_with, fetched}
use Rattle.thy_hart.proofs.FetchLemmas.{span_whole, span_len, effect_read}
use Rattle.thy_hart.proofs.HandLemmas.{begun_with-sound, begun_with-unsecured}
use Rattle.thy_hart.proofs.micro_steps.HartParts.fetch_at.Goals as goal

pub fetch_word-word-requires-clause-len : goal.fetch_word-word-requires-clause-len
fetch_word-word-requires-clause-len g c = span_len c.args.self.now.geometry c.args.self.now.cpu c.args.at c.requires.at

pub fetch_word-word-requires-clause-whole : goal.fetch_word-word-requires-clause-whole
fetch_word-word-requires-clause-whole g c =
    span_whole c.args.self.now.geometry c.args.self.now.cpu c.args.at c.requires.range c.requires.at

pub returns-clause-hart : goal.returns-clause-hart
unfolding fetched
returns-clause-hart g c = λ blocks whole.
    let p = c.args.self.now.geometry in
    let cpu = c.args.self.now.cpu in
    let meant : Effect = word_effect c.fetch_word-word.result cpu.pc cpu.regs in
    let effect : Effect = within p.base (program_size p) cpu.other meant in
    c.begin_word.ensures.hart
    ∙ ap (λ e. begun_with c.args.input.now e (hart_state_of c.args.self.now))
    (effect_read p p (program_size p) cpu c.args.cache.now c.args.at c.fetch_word-word.result meant effect
    c.requires.at refl refl c.fetch_word-word.ensures.word refl refl blocks whole)

pub returns-clause-sound : goal.returns-clause-sound
returns-clause-sound g c =
    let p = c.args.self.now.geometry in
    let cpu = c.args.self.now.cpu in
    let old : HartState = hart_state_of c.args.self.now in
    let meant : Effect = word_effect c.fetch_word-word.result cpu.pc cpu.regs in
    let effect : Effect = within p.base (program_size p) cpu.other meant in
    record {
      hart = subst IsSoundHart (sym c.begin_word.ensures.hart)
          (begun_with-sound c.args.input.now effect old c.requires.range (within-is p.base (program_size p) cpu.other meant));
      pieces = c.begin_word.ensures.pieces;
    }

pub returns-clause-unsecured : goal.returns-clause-unsecured
returns-clause-unsecured g c =
    let p = c.args.self.now.geometry in
    let cpu = c.args.self.now.cpu in
    let old : HartState = hart_state_of c.args.self.now in
    let effect : Effect = within p.base (program_size p) cpu.other (word_effect c.fetch_word-word.result cpu.pc cpu.regs) in
    subst (λ (h : HartState). secured h.hand ≡ 0) (sym c.begin_word.ensures.hart) (begun_with-unsecured c.args.input.now effect old)
