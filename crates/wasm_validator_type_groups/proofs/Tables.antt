-- A table with one more group.
use Rattle.std.proofs.Common.{◌≡◌, sym, ap, ◌∙◌, ℕ, ◌<◌, ◌^◌, List, [], ◌∷◌, ◌++◌, length, arith}
use Rattle.std.specs.Hash.{HashWrites}
use Rattle.std.proofs.lemmas.List.{length_push}
use Rattle.wasm_validator_type_groups.specs.declared.group_table.GroupTable.TheInside.{Inside}
use Rattle.wasm_validator_type_groups.specs.declared.known_groups.KnownGroups.{KnownGroups}
use Rattle.wasm_validator_type_groups.specs.GroupHashes.{group_hash, FindSame, FindsOneMore}
use Rattle.wasm_validator_type_groups.specs.Tables.{groups_in, IsTable}
use Rattle.wasm_validator_type_groups.proofs.HashChains.{known-same, known-push}

pub table-push : {T A : Type 0} (F : T → HashWrites) (a b : Inside T A) (gs : List (List T)) (k : KnownGroups A) (g : List T) (hash number : ℕ) → IsTable F a → groups_in a ≡ gs → length gs < 2 ^ 32
    → FindSame a.known k → FindsOneMore k b.known hash number → hash ≡ group_hash F g → number ≡ length a.groups → b.groups ≡ a.groups ++ g ∷ [] → b.is_indexed ≡ a.is_indexed → IsTable F b
table-push F a b gs k g hash number table view few same more hash_is number_is groups indexed = record {
  few = rw groups (omega (arith, few, ap length view, length_push a.groups g));
  known = λ on. rw groups (known-push F k b.known a.groups g hash number (known-same F a.known k a.groups same (table.known (sym indexed ∙ on))) more hash_is number_is);
}
