-- Whether a line was heard, by whether it was kept.
use Rattle.std.proofs.Common.{◌≡◌, Bool, true, false, Result, Ok, Err, IfErr, IsOk, OnOk, refl, sym, true≢false}
use Rattle.std.specs.Prelude.{IsTrue}
use Rattle.warp_room.specs.declared.queues.Unheard.{Unheard}
use Rattle.warp_room.specs.declared.queues.Unheard.TheVariants.{NoMemory}

pub ok_kept : {A : Type 0} (kept : Bool) (result : Result A Unheard) (P : Type 0) → (IsTrue kept → P) → (kept ≡ false → result ≡ Err NoMemory)
    → OnOk result P
ok_kept kept (Err why) P was lost = tt
ok_kept true (Ok value) P was lost = was refl
ok_kept false (Ok value) P was lost = (let e = lost refl in absurd (cc))

pub err_lost : {A : Type 0} (kept : Bool) (result : Result A Unheard) (Q : Type 0) → (IsTrue kept → IsOk result)
    → (kept ≡ false → result ≡ Err NoMemory) → (kept ≡ false → Q) → IfErr result (λ why. (why ≡ NoMemory) × Q)
err_lost kept (Ok value) Q was lost stays = tt
err_lost true (Err why) Q was lost stays = absurd (true≢false (sym (was refl)))
err_lost false (Err why) Q was lost stays = (let e : Err why ≡ Err NoMemory = lost refl in (cc, stays refl))
