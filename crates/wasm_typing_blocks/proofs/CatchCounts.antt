-- Catch clauses, counted against their limit.
use Rattle.std.proofs.Common.{◌≡◌, sym, ap, ◌∙◌, ℕ, zero, suc, ◌<◌, ◌-◌, Bool, true, false, leb, List, length, Some, None, arith}
use Rattle.std.proofs.Math.Dec.{leb-suc-suc, leb-suc-zero}
use Rattle.std.proofs.lemmas.Bool.{le-leb}
use Rattle.wasm_operators.specs.declared.control.Catch.{Catch}
use Rattle.wasm_operators.specs.SeenLists.{GivesFront}
use Rattle.wasm_typing_blocks.proofs.ListItems.{front_given, none_left, fewer}

less_one : (n room : ℕ) → 0 < room → leb (suc n) room ≡ leb n (room - 1)
less_one n zero h = absurd (omega arith)
less_one n (suc r) h = let back : suc r - 1 ≡ r = omega arith in leb-suc-suc n r ∙ ap (leb n) (sym back)

no_items : (room : ℕ) → leb 0 room ≡ true
no_items room = le-leb 0 room (omega arith)

pub one_counted : (room : ℕ) (b : Bool) (xs after : List Catch) (x : Catch) → b ≡ leb (length xs) room → GivesFront xs (Some x) after → 0 < room → b ≡ leb (length after) (room - 1)
one_counted room b xs after x e h r = e ∙ ap (λ (ys : List Catch). leb (length ys) room) (front_given xs after x h) ∙ less_one (length after) room r

pub no_room : (b : Bool) (room : ℕ) (xs after : List Catch) (x : Catch) → b ≡ leb (length xs) room → room ≡ 0 → GivesFront xs (Some x) after → false ≡ b
no_room b room xs after x e z h = sym (e ∙ ap (λ n. leb (length xs) n) z ∙ ap (λ (ys : List Catch). leb (length ys) 0) (front_given xs after x h) ∙ leb-suc-zero (length after))

pub room_left : (b : Bool) (room : ℕ) (xs after : List Catch) → b ≡ leb (length xs) room → GivesFront xs None after → true ≡ b
room_left b room xs after e h = sym (e ∙ ap (λ (ys : List Catch). leb (length ys) room) (none_left xs after h) ∙ no_items room)

pub ruleset counts = (fewer, one_counted, no_room, room_left)
