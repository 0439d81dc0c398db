use Rattle.std.proofs.Common.{◌≡◌, true, refl}
use Rattle.thy_run.proofs.quiet.pass_other.Goals as goal

-- the step failed
pub returns-in_default : goal.returns-in_default
returns-in_default g c = λ fitted turns d. ((c.requires.few, c.in_default.ensures fitted turns d), refl)

-- the step has something to report
pub returns-then-not-is_quiet : goal.returns-then-not-is_quiet
returns-then-not-is_quiet g c = λ fitted turns d. (
  (
    c.requires.few,
    c.in-Ok.ensures fitted turns d,
    λ quiet. absurd (let yes : c.is_quiet.result ≡ true = c.is_quiet.ensures.1 quiet in let no = c.if-not-is_quiet.true in cc),
  ),
  refl,
)

-- the cycle was quiet
pub returns : goal.returns
returns g c = λ fitted turns d. record {
  r = c.in-Ok.stepped;
  stepped = c.in-Ok.ensures fitted turns d;
  quiet = c.is_quiet.ensures.0 c.if-not-is_quiet.false;
  sees = c.see.ensures;
}
