-- `pim::messages::hello_answer` meets its contract, by the case of the answer; a priority that is not announced is 0 already.
--     whole, said     a Hello as it was said, and the answer that says it
-- Assumes nothing.
use Prim.Native.Nat.{ℕ}
use mathlib.Core.Path.{◌≡◌, refl, ap}
use mathlib.Core.Bool.{Bool, true, false}
use Rattle.hello.specs.Hello.{hello}
use Rattle.hello.specs.Answers.{if_given, hello_by, told, ZeroPriority, Unannounced}
use Rattle.hello.specs.declared.Hello.{Hello}
use Rattle.pim.specs.Answers.{accepted, hello_of, hello_answer}
use Rattle.pim.proofs.messages.hello_answer.Goals as goal
use Rattle.std.specs.Prelude.{Result, Ok}
use Rattle.format.specs.declared.Refusal.{Refusal}

whole :
    (t : ℕ) (b : Bool) (p : ℕ) (k : Bool) →
    (b ≡ false → p ≡ 0) →
    record { holdtime = t; has_priority = b; priority = p; packing = k } ≡ hello_of (hello t (if_given b p) k)
unfolding hello_of if_given
whole t true p k z = refl
whole t false p k z = rw (z refl)

said : (x : Result Hello Refusal) (h : Hello) → x ≡ Ok h → Unannounced x → record { refusal = accepted; hello = h } ≡ hello_answer (told x)
unfolding hello_answer told hello_by
said x h e u =
    let z : ZeroPriority h = rw (e) at u in
    rw (e) (ap (λ g. record { refusal = accepted; hello = g }) (whole h.holdtime h.has_priority h.priority h.packing z))

pub returns-in-Ok : goal.returns-in-Ok
returns-in-Ok c =
    rw c.accepted.ensures (said c.args.h _ c.in-Ok.is c.requires)

pub returns-in-Err : goal.returns-in-Err
unfolding hello_answer told
returns-in-Err c = rw (c.in-Err.is, c.from.ensures)
