-- One user row after the other.
use Rattle.std.proofs.Common.{◌<◌, sym, ◌∙◌, arith}
use mathlib.Core.Logic.{inl, inr}
use Rattle.rota.specs.Believed.RotaBytes.{user_rows_of}
use Rattle.rota_holding.proofs.RestLaws.{user-as, user-small, gives_as, sought, rested-none, rested-in, rested-out, rested-stop, rested-all}
use Rattle.rota_holding.proofs.found_by_rows.Goals as goal
use Rattle.rota_holding.proofs.found_by_rows.Goals.{then-contains+then-holds_for, then-contains+else-holds_for, else-contains}

pub loop-k-init : goal.loop-k-init
loop-k-init c = rested-none _ _ _

pub returns-then-found-among : goal.returns-then-found-among
returns-then-found-among c = rested-stop c.loop-k.invariant c.if-found-among.true

pub contains-requires : goal.contains-requires
contains-requires c =
    let r = c.user_rows-rows.ensures in
    user-small _ _ c.args.rota.now.located _ (omega (arith, r.place, c.loop-k-test.true)) (user-as r.bytes r.place.0 _ c.number-user.ensures)

pub with-found-requires : goal.with-found-requires
with-found-requires c =
    let r = c.user_rows-rows.ensures in
    user-small _ _ c.args.rota.now.located _ (omega (arith, r.place, c.loop-k-test.true)) (user-as r.bytes r.place.0 _ c.number-user.ensures)

pub rest_on-on-requires : goal.rest_on-on-requires
rest_on-on-requires c =
    let p = c.requires in
    let r = c.user_rows-rows.ensures in
    (p.0, omega (arith, r.place, c.loop-k-test.true), sym (gives_as r.bytes r.place.0 _ _ p.1 c.holds_for.ensures) ∙ c.if-holds_for.true)

pub loop-k-preserved : goal.loop-k-preserved
loop-k-preserved c =
    let p = c.requires in
    let r = c.user_rows-rows.ensures in
    let m : c.loop-k.k < user_rows_of c.args.rota.now.bytes.now = omega (arith, r.place, c.loop-k-test.true) in
    let i = c.loop-k.invariant in
    let ok = user-as r.bytes r.place.0 _ c.number-user.ensures in
    let b = user-small _ _ c.args.rota.now.located _ m ok in
    let e = sought _ _ _ c.lost.ensures c.contains.ensures in
    elim c.if-contains.branch [
      | then-contains+then-holds_for w ↦ rested-in i m _ ok b (sym e ∙ w.if-contains.true) (w.found-is ∙ w.with-found.ensures) w.rest_on-on.ensures w.on-is
      | then-contains+else-holds_for w ↦ rested-out i m _ ok b (inr (sym (gives_as r.bytes r.place.0 _ _ p.1 w.holds_for.ensures) ∙ w.if-holds_for.false)) w.found-is w.on-is
      | else-contains w ↦ rested-out i m _ ok b (inl (sym e ∙ w.if-contains.false)) w.found-is w.on-is
    ]

pub returns : goal.returns
returns c = rested-all c.loop-k.invariant (omega (arith, c.user_rows-rows.ensures.place))
