-- A `&` to the owner of rows reaches each word. Assumes `Logic`.
use denote.Builtin.{u8}
use denote.Param.Shared.{copy_shared}
use denote.Struct.Laws.{field_copy}
use denote.Struct.Lending.{of_Lends}
use Rattle.core.specs.contracts.marker.PhantomData as marker
use Rattle.lmn_web_rows.specs.contracts.rows.Rows as C
use Rattle.lmn_web_rows.proofs.rows.Rows.TheLaw.Statement.{statement}
use Rattle.lmn_web_rows.proofs.Sharing.{rows_laws, Lends-rows}

pub shares : statement
shares = of_Lends C.struct (C.the_codes (marker.the_row u8).coded) C.the_heap C.the_lent (λ d p. rows_laws d.rows) (copy_shared (marker.the_field u8) (field_copy (marker.the_type u8) tt), tt)
    (λ M 𝓤 𝓛 d p. Lends-rows 𝓛 (C.the_row).lives d.rows)
