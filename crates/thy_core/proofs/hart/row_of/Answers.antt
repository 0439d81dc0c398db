use Rattle.std.proofs.Common.{◌≡◌, ℕ, ◌+◌, not, List, false, refl, sym, ◌∙◌, ap, subst}
use Rattle.std.proofs.lemmas.Bool.{and_parts}
use Rattle.thy_cache.specs.Contents.{Contents}
use Rattle.thy_hart.specs.HartState.{HartState}
use Rattle.thy_hart.specs.Outcomes.{given}
use Rattle.thy_hart.specs.Moments.{IsReady}
use Rattle.thy_hart.specs.Rows.{moved_then, Takes}
use Rattle.thy_computer.specs.Advances.{SimulatesRow}
use Rattle.thy_computer.specs.declared.did.Advance.{Advance}
use Rattle.thy_scheme.specs.SchemeStore.{held_by_scheme}
use Rattle.thy_scheme.specs.MachineCalls.{begun_by_hart}
use Rattle.thy_scheme.specs.Kind.{kind_over}
use Rattle.thy_scheme.specs.Machine.{Machine, moment_of}
use Rattle.thy_core.specs.Calm.{is_calm}
use Rattle.thy_core.specs.MachineParts.{machine_of}
use Rattle.thy_core.specs.Row.{after_row, ends_epoch, put_back}
use Rattle.thy_core.proofs.CalmLaws.{calm_over, is_false}
use Rattle.thy_core.proofs.CycleLaws.{hart_rests, hart_ready}
use Rattle.thy_core.proofs.RowLaws.{begun-alone, counted-row, put-back, row_calm, row_failed, row_from, row_hand}
use Rattle.thy_core.proofs.hart.row_of.Given.{Over}
use Rattle.thy_core.proofs.hart.row_of.Goals as goal

pub begin-requires-clause-own : goal.begin-requires-clause-own
begin-requires-clause-own g c = c.requires.turn.turn.own

pub begin-requires-clause-hand : goal.begin-requires-clause-hand
begin-requires-clause-hand g c =
    let K = g.S.Scheme.scheme in
    let m = machine_of c.args.m.now in
    let n = g.N.Nvm.device c.args.nvm.now in
    let take = c.requires.turn in
    hart_rests K take.o take.cycles m n take.at_moment c.args.hart take.turn

pub step_on-moved-requires-clause-going : goal.step_on-moved-requires-clause-going
step_on-moved-requires-clause-going g c =
    ap (λ (x : Machine _). x.hart.epoch.over) c.begin.ensures.parts ∙ calm_over g.S.Scheme.scheme (machine_of c.args.m.now) c.requires.calm

pub step_on-moved-requires-clause-alone : goal.step_on-moved-requires-clause-alone
step_on-moved-requires-clause-alone g c = λ yes.
    ap (λ (x : Machine _). x.hart.cpu.other) c.begin.ensures.parts
    ∙ begun-alone c.args.hart c.args.m.now.begun c.args.m.now.hart.cpu (c.requires.alone yes)

-- ---- no step was taken

pub put_back-requires : goal.put_back-requires
put_back-requires g c = λ none.
    let K = g.S.Scheme.scheme in
    let m = machine_of c.args.m.now in
    let n = g.N.Nvm.device c.args.nvm.now in
    let take = c.requires.turn in
    let left = c.step_on-moved.ensures.left c.if-moved-eq0.true in
    ap (λ (h : HartState). h.hand) left.1
    ∙ ap (λ (x : Machine _). x.hart.hand) c.begin.ensures.parts
    ∙ hart_rests K take.o take.cycles m n take.at_moment c.args.hart take.turn none

none_taken : (g : Over) (c : goal.After-put_back g) → machine_of c.put_back.new.m ≡ machine_of c.args.m.now
none_taken g c =
    let K = g.S.Scheme.scheme in
    let m = machine_of c.args.m.now in
    let n = g.N.Nvm.device c.args.nvm.now in
    let take = c.requires.turn in
    let b = machine_of c.begin.new.m in
    let hart = c.args.hart in
    let begun = c.args.m.now.begun in
    let left = c.step_on-moved.ensures.left c.if-moved-eq0.true in
    c.put_back.ensures.parts
    ∙ ap (λ (x : HartState). put_back hart begun (record b { hart = x; cache = c.step_on-moved.new.cache })) left.1
    ∙ ap (λ (x : Contents). put_back hart begun (record b { cache = x })) left.2
    ∙ ap (λ (x : Machine _). put_back hart begun x) c.begin.ensures.parts
    ∙ put-back hart m begun refl take.turn.own

pub returns-then-moved-eq0-clause-steps : goal.returns-then-moved-eq0-clause-steps
returns-then-moved-eq0-clause-steps g c = λ pick mine. none_taken g c

pub returns-then-moved-eq0-clause-failed : goal.returns-then-moved-eq0-clause-failed
returns-then-moved-eq0-clause-failed g c = ap (λ (x : Machine _). x.failed) (none_taken g c)

pub returns-then-moved-eq0-clause-known : goal.returns-then-moved-eq0-clause-known
returns-then-moved-eq0-clause-known g c = λ marked. ap (is_calm g.S.Scheme.scheme) (none_taken g c) ∙ c.requires.calm

-- ---- steps were taken

pub count_row-requires-clause-begun : goal.count_row-requires-clause-begun
count_row-requires-clause-begun g c = ap (λ (x : Machine _). x.begun) c.begin.ensures.parts

pub count_row-requires-clause-hand : goal.count_row-requires-clause-hand
count_row-requires-clause-hand g c = λ ends.
    let K = g.S.Scheme.scheme in
    let m = machine_of c.args.m.now in
    let n = g.N.Nvm.device c.args.nvm.now in
    let take = c.requires.turn in
    let b = machine_of c.begin.new.m in
    let hart = c.args.hart in
    let input = c.as_slice-input.result.now in
    let steps = moved_then c.step_on-moved.result.0 c.step_on-moved.result.1 in
    let k = c.step_on-moved.new.self in
    let d = c.step_on-moved.new.cache in
    let parts : b ≡ begun_by_hart hart m = c.begin.ensures.parts in
    let ready : IsReady (moment_of K b n) = hart_ready K take.o take.cycles m n take.at_moment c.args.hart take.turn b parts in
    let free = c.free-free.ensures ∙ sym (take.at_moment.lawful.free_is b.scheme n) in
    let found : Takes (given input c.free-free.result false) (held_by_scheme K b.scheme n) b.hart b.cache steps k d =
    c.step_on-moved.ensures.takes (held_by_scheme K b.scheme n) ready free in
    let takes : Takes (given input (K.free m.scheme) false) (held_by_scheme K m.scheme n) (begun_by_hart hart m).hart m.cache steps k d =
    subst (λ (x : Machine g.row.S.Denot). Takes (given input (K.free x.scheme) false) (held_by_scheme K x.scheme n) x.hart x.cache steps k d) parts
    (subst (λ (x : ℕ). Takes (given input x false) (held_by_scheme K b.scheme n) b.hart b.cache steps k d) c.free-free.ensures found) in
    row_hand (given input (K.free m.scheme) false) (held_by_scheme K m.scheme n) c.step_on-moved.result.0 c.step_on-moved.result.1
    (begun_by_hart hart m).hart k m.cache d ends takes

pub returns-clause-steps : goal.returns-clause-steps
returns-clause-steps g c = λ pick mine.
    let K = g.S.Scheme.scheme in
    let m = machine_of c.args.m.now in
    let n = g.N.Nvm.device c.args.nvm.now in
    let take = c.requires.turn in
    let b = machine_of c.begin.new.m in
    let hart = c.args.hart in
    let input = c.as_slice-input.result.now in
    let steps = moved_then c.step_on-moved.result.0 c.step_on-moved.result.1 in
    let k = c.step_on-moved.new.self in
    let d = c.step_on-moved.new.cache in
    let parts : b ≡ begun_by_hart hart m = c.begin.ensures.parts in
    let ready : IsReady (moment_of K b n) = hart_ready K take.o take.cycles m n take.at_moment c.args.hart take.turn b parts in
    let free = c.free-free.ensures ∙ sym (take.at_moment.lawful.free_is b.scheme n) in
    let found : Takes (given input c.free-free.result false) (held_by_scheme K b.scheme n) b.hart b.cache steps k d =
    c.step_on-moved.ensures.takes (held_by_scheme K b.scheme n) ready free in
    let takes : Takes (given input (K.free m.scheme) false) (held_by_scheme K m.scheme n) (begun_by_hart hart m).hart m.cache steps k d =
    subst (λ (x : Machine g.row.S.Denot). Takes (given input (K.free x.scheme) false) (held_by_scheme K x.scheme n) x.hart x.cache steps k d) parts
    (subst (λ (x : ℕ). Takes (given input x false) (held_by_scheme K b.scheme n) b.hart b.cache steps k d) c.free-free.ensures found) in
    let next = machine_of c.count_row.new.m in
    let is = c.count_row.ensures.parts
    ∙ ap (λ (x : Machine g.row.S.Denot). after_row hart c.step_on-moved.result.0 c.step_on-moved.result.1 (record x { hart = k; cache = d })) parts
    ∙ counted-row K g.met.S.Scheme.lawful c.args.start.now n hart input (λ o starts. starts.input ∙ sym c.as_slice-input.ensures) c.requires.empty
    c.step_on-moved.result.0 c.step_on-moved.result.1 k d (begun_by_hart hart m) in
    subst (λ (a : List Advance). SimulatesRow (kind_over K) c.args.start.now pick a m next n) (sym c.count_row.ensures.row)
    (row_from K g.met.S.Scheme.lawful c.args.start.now n hart input (λ o starts. starts.input ∙ sym c.as_slice-input.ensures) c.requires.empty
    c.step_on-moved.result.0 c.step_on-moved.result.1 pick m next k d c.requires.calm mine (λ none. absurd (c.if-moved-eq0.false none)) takes is)

pub returns-clause-failed : goal.returns-clause-failed
returns-clause-failed g c =
    let K = g.S.Scheme.scheme in
    let m = machine_of c.args.m.now in
    let n = g.N.Nvm.device c.args.nvm.now in
    let take = c.requires.turn in
    let hart = c.args.hart in
    let input = c.as_slice-input.result.now in
    let k = c.step_on-moved.new.self in
    let d = c.step_on-moved.new.cache in
    let from = counted-row K g.met.S.Scheme.lawful c.args.start.now n hart input
    (λ o starts. starts.input ∙ sym c.as_slice-input.ensures) c.requires.empty
    c.step_on-moved.result.0 c.step_on-moved.result.1 k d (begun_by_hart hart m) in
    ap (λ (x : Machine _). x.failed)
    (c.count_row.ensures.parts
    ∙ ap (λ (x : Machine g.row.S.Denot). after_row hart c.step_on-moved.result.0 c.step_on-moved.result.1 (record x { hart = k; cache = d })) c.begin.ensures.parts ∙ from)
    ∙ row_failed K g.met.S.Scheme.lawful c.args.start.now n hart input (λ o starts. starts.input ∙ sym c.as_slice-input.ensures) c.requires.empty
    c.step_on-moved.result.1 k d (begun_by_hart hart m) (m.spent + c.step_on-moved.result.0) m.lap

pub returns-clause-known : goal.returns-clause-known
returns-clause-known g c = λ marked.
    let K = g.S.Scheme.scheme in
    let m = machine_of c.args.m.now in
    let n = g.N.Nvm.device c.args.nvm.now in
    let take = c.requires.turn in
    let b = machine_of c.begin.new.m in
    let hart = c.args.hart in
    let input = c.as_slice-input.result.now in
    let steps = moved_then c.step_on-moved.result.0 c.step_on-moved.result.1 in
    let k = c.step_on-moved.new.self in
    let d = c.step_on-moved.new.cache in
    let parts : b ≡ begun_by_hart hart m = c.begin.ensures.parts in
    let ready : IsReady (moment_of K b n) = hart_ready K take.o take.cycles m n take.at_moment c.args.hart take.turn b parts in
    let free = c.free-free.ensures ∙ sym (take.at_moment.lawful.free_is b.scheme n) in
    let found : Takes (given input c.free-free.result false) (held_by_scheme K b.scheme n) b.hart b.cache steps k d =
    c.step_on-moved.ensures.takes (held_by_scheme K b.scheme n) ready free in
    let takes : Takes (given input (K.free m.scheme) false) (held_by_scheme K m.scheme n) (begun_by_hart hart m).hart m.cache steps k d =
    subst (λ (x : Machine g.row.S.Denot). Takes (given input (K.free x.scheme) false) (held_by_scheme K x.scheme n) x.hart x.cache steps k d) parts
    (subst (λ (x : ℕ). Takes (given input x false) (held_by_scheme K b.scheme n) b.hart b.cache steps k d) c.free-free.ensures found) in
    let next = machine_of c.count_row.new.m in
    let is = c.count_row.ensures.parts
    ∙ ap (λ (x : Machine g.row.S.Denot). after_row hart c.step_on-moved.result.0 c.step_on-moved.result.1 (record x { hart = k; cache = d })) parts
    ∙ counted-row K g.met.S.Scheme.lawful c.args.start.now n hart input (λ o starts. starts.input ∙ sym c.as_slice-input.ensures) c.requires.empty
    c.step_on-moved.result.0 c.step_on-moved.result.1 k d (begun_by_hart hart m) in
    let goes = is_false (ends_epoch c.step_on-moved.result.1)
    (and_parts (not (ends_epoch c.step_on-moved.result.1)) c.begin.new.m.store.calm (sym c.count_row.ensures.calm ∙ marked)).0 in
    row_calm K g.met.S.Scheme.lawful c.args.start.now n hart input (λ o starts. starts.input ∙ sym c.as_slice-input.ensures) c.requires.empty
    c.step_on-moved.result.0 (m.spent + c.step_on-moved.result.0) m.lap c.step_on-moved.result.1 m next k d c.requires.calm goes takes is
