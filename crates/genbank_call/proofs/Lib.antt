-- what printing a record promises, on plain values
pub mod Printing
